use Rattle.std.proofs.Common.{◌∙◌, ◌++◌, ◌∷◌, [], ap, sym, subst, List, length, nat_eq, Some, ◌<◌}
use Rattle.std.specs.HashMap.{get}
use Rattle.std.specs.Map.{lookup}
use Rattle.std.proofs.lemmas.Bool.{ne_eqb}
use Rattle.rv_memory.specs.Words.{AreWords, IsApart}
use Rattle.rv_memory.specs.declared.words.Word.{Word}
use Rattle.rv_memory.proofs.Placed.{pushed-words, same-words}
use Rattle.rv_memory.proofs.words.Words.push.Goals as goal

pub invariant_of-self-in_err-insert : goal.invariant_of-self-in_err-insert
invariant_of-self-in_err-insert c =
    same-words (get nat_eq c.self.inside.places) (get nat_eq c.insert.new.self) c.self.inside.all.items
    c.reserve.new.self.items c.self.invariant c.in_ok-reserve.ensures.items
    (λ q. ap (lookup (nat_eq q)) c.in_err-insert.ensures.err)

pub invariant_of-self-2 : goal.invariant_of-self-2
invariant_of-self-2 c =
    let words : List Word = c.self.inside.all.items in
    subst (AreWords (get nat_eq c.insert.new.self))
    (sym (c.push_reserved.ensures.items ∙
    ap (λ (ws : List Word). ws ++ c.args.word ∷ []) c.in_ok-reserve.ensures.items))
    (pushed-words c.self.invariant c.requires.size c.requires.aligned
    (subst (λ (ws : List Word). IsApart ws c.args.word) (sym c.self.view_is) c.requires.apart)
    (c.in_ok-insert.ensures.updates.1 ∙ ap Some (c.len-number.ensures ∙ c.self.inside.all.ok.0))
    (λ q other. c.in_ok-insert.ensures.updates.2 q (ne_eqb c.args.word.address q other))
    (subst (λ (ws : List Word). length ws < 4294967295) (sym c.self.view_is) c.requires.few))
