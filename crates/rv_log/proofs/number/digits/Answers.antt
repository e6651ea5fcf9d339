use Rattle.std.proofs.Common.{◌+◌, refl, subst, arith}
use Rattle.std.proofs.lemmas.Grind.{common_steps}
use Rattle.rv_log.proofs.Digits.{SaysSo, digit-more, digits-end, no-fit}
use Rattle.rv_log.proofs.number.digits.Goals as goal

pub bytes-init : goal.bytes-init
bytes-init c = (record { value_is = refl; digits = refl }, omega arith)

pub returns-in_err-checked_mul : goal.returns-in_err-checked_mul
returns-in_err-checked_mul c =
    rw (c.from_residual-in_err-checked_mul.ensures) (λ fits.
    let large = no-fit c.args.radix c.args.text.now c.bytes.byte-index c.bytes.value 18446744073709551616
    c.bytes.invariant.0 c.bytes-test.true (omega (c.requires.low, arith))
    (grind (arith, common_steps, c.in_err-checked_mul.ensures)) in
    let small = fits.1 in
    omega (large, small, arith))

pub returns-in_err-value : goal.returns-in_err-value
returns-in_err-value c =
    rw (c.from_residual-in_err-value.ensures) (λ fits.
    let large = no-fit c.args.radix c.args.text.now c.bytes.byte-index c.bytes.value 18446744073709551616
    c.bytes.invariant.0 c.bytes-test.true (omega (c.requires.low, arith))
    (grind (arith, common_steps, c.in_err-value.ensures, c.in_ok-checked_mul.ensures, c.in_ok-digit.ensures.value)) in
    let small = fits.1 in
    omega (large, small, arith))

pub bytes-preserved : goal.bytes-preserved
bytes-preserved c =
    let said = c.in_ok-digit.ensures.value in (
      subst (SaysSo c.args.radix c.args.text.now (c.bytes.byte-index + 1))
          (grind (arith, common_steps, c.in_ok-value.ensures, c.in_ok-checked_mul.ensures, said))
          (digit-more c.args.radix c.args.text.now c.bytes.byte-index c.bytes.value c.bytes.invariant.0
          c.bytes-test.true said.0),
      grind (arith, common_steps, c.in_ok-value.ensures),
    )

pub returns : goal.returns
returns c =
    let end = digits-end c.args.radix c.args.text.now c.bytes.byte-index c.bytes.value c.bytes.invariant.0
    (omega (c.bytes-test.false, arith)) in
    let fits = c.bytes.invariant.1 in
    ((end.0, omega (end.1, fits, arith)), end.1)
