-- Digits, one at a time.
use Rattle.std.proofs.Common.{◌≡◌, ℕ, ◌+◌, ◌-◌, ◌*◌, ◌^◌, ◌<◌, ◌≤◌, List, [], ◌∷◌, Option, None, Some, Bool, ◌&&◌}
use Rattle.std.proofs.Common.{if◌then◌else◌, length, get_or, drop, true, false, refl, arith, add-one}
use Rattle.std.proofs.Math.Seq.{drop-cons}
use Rattle.std.proofs.Math.ListN.{drop_of_length-le}
use Rattle.std.proofs.Math.Nat.{pow-suc}
use Rattle.std.specs.List.{list_all}
use Rattle.rv_trace.specs.Numbers.{decimal_after, is_digit}

-- the number that the digits say after those that say n; None where a byte is no digit
unfoldable pub decimal_from : ℕ → List ℕ → Option ℕ
decimal_from n [] = Some n
decimal_from n (b ∷ bs) = if is_digit b then decimal_from (n * 10 + (b - 48)) bs else None

from-digit : (n b : ℕ) (bs : List ℕ) (is : Bool) → decimal_from (n * 10 + (b - 48)) bs ≡
    (if list_all is_digit bs then Some (decimal_after (n * 10 + (b - 48)) bs) else None)
    → (if is then decimal_from (n * 10 + (b - 48)) bs else None) ≡
    (if is && list_all is_digit bs then Some (decimal_after n (b ∷ bs)) else None)
from-digit n b bs true rest = rest
from-digit n b bs false rest = refl

-- a text of digits is a number
pub decimal_from-is : (n : ℕ) (text : List ℕ)
    → decimal_from n text ≡ (if list_all is_digit text then Some (decimal_after n text) else None)
unfolding decimal_from
decimal_from-is n [] = refl
decimal_from-is n (b ∷ bs) = from-digit n b bs (is_digit b) (decimal_from-is (n * 10 + (b - 48)) bs)

-- one digit more
pub digit-more : (text : List ℕ) (i acc : ℕ) → i < length text → is_digit (get_or text i 0) ≡ true
    → decimal_from (acc * 10 + (get_or text i 0 - 48)) (drop (i + 1) text) ≡ decimal_from acc (drop i text)
unfolding decimal_from
digit-more text i acc h d = rw (add-one, drop-cons text i 0, d) refl

-- the end of the text
pub digit-end : (text : List ℕ) (i acc : ℕ) → length text ≤ i → decimal_from acc (drop i text) ≡ Some acc
unfolding decimal_from
digit-end text i acc h = rw (drop_of_length-le text h) refl

-- one digit more is one power of ten more
pub power-step : (v d i : ℕ) → v < 10 ^ i → d ≤ 9 → v * 10 + d < 10 ^ (i + 1)
power-step v d i h k = rw (add-one, pow-suc) (omega arith)
