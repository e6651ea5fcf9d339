-- Each note shows a copy of what it owns, and the two copies are of one cell. Assumes `Logic`.
use Rattle.std.proofs.Common.{◌≡◌, ℕ, List, [], ◌∷◌, refl, IfSome}
use mir.Syntax.{named}
use mir.Val.{Val, vunit, vptr}
use base.Logic.{SProp}
use base.Fml.{Fml, flft, ftrue}
use types.Kit.{‵, raw, ◌⊛◌, later, ◌$◌, ◌∵◌, !, qed, by, move, keep, use2, split, split3, join, fsplit, fsplit3}
use types.Kit.{fjoin, await, rewrite, feq_i}
use types.Run.{of_opd, unit_lit, returns, enter}
use types.ByLocal.{alloc_all, pass_all, free_all, look_at, sets}
use contract.Running.{tables}
use contract.Monad.{fact}
use denote.Exit.{yes}
use denote.RattleType.{RattleType, owns}
use denote.Signature.{types_at, plain}
use denote.Steps.{nothing, heard}
use denote.Builtin.{RefOf}
use denote.Ref.{shr_vals, shr_Tells}
use denote.Triple.Walked.{Stays, stay_dropped, walk_of, Goes-dropped}
use Rattle.std.proofs.raw_atomic.Walks.{proved, leaves}
use Rattle.once_cell.specs.Once.{Agrees, noted}
use Rattle.once_cell.proofs.Notes.{noted_agree}
use Rattle.rv_cert.specs.contracts.verdict.Verdict as verdict
use Rattle.rv_verdict.proofs.Shared.{NoteOf, note_shown}
use Rattle.rv_verdict.specs.contracts.note.compare.{ended, clauses}
use Rattle.rv_verdict.specs.contracts.note.compare.Key.{name as #self}
use Rattle.rv_verdict.proofs.note.compare.Statement.{statement}
use Rattle.rv_verdict.proofs.note.compare.Code as code

-- the function does what its contract says
pub compare_spec : {M : Type 1} → statement M
compare_spec 𝓤 𝓛 𝓜 𝓡 wired =
    let program = tables 𝓤 𝓛.H 𝓜 𝓡 𝓡.env in
    let Verdicts : RattleType = verdict.the_row in
    let Notes : RattleType = NoteOf Verdicts in
    let said = clauses 𝓛 𝓜.mem 𝓡.returns in
    let one = RefOf (0 ∷ []) tt (plain (λ _. Notes)) (λ _. tt) in
    let other = RefOf (1 ∷ []) tt (plain (λ _. Notes)) (λ _. tt) in
    let stays : Stays ended.signature.params ended.kept = (stay_dropped one yes, (stay_dropped other yes, tt)) in
    let one_goes = Goes-dropped 𝓛 2 one yes (λ lives arg from. refl) in
    let other_goes = Goes-dropped 𝓛 2 other yes (λ lives arg from. refl) in
    let unfolded = code.unfolded 𝓤 𝓛.H 𝓜 𝓡 wired in
    proved 𝓛 ended stays said 𝓜 𝓡 (one_goes, (other_goes, tt)) #self code.function unfolded
    (λ lives. (shr_vals, (shr_vals, tt)))
    (λ lives. (shr_Tells (named 0) lives.0 Notes, (shr_Tells (named 1) lives.1.0 Notes, tt)))
    (λ lives shares bounds args ghost are.
    let first = args.0.now in
    let second = args.1.0.now in
    let first_at = args.0.ref_ptr in
    let second_at = args.1.0.ref_ptr in
    let first_value : Val = vptr first_at.0 first_at.1 in
    let second_value : Val = vptr second_at.0 second_at.1 in
    let call : (walk_of 𝓛 ended stays said).Ghost =
    ((lives, shares, bounds, args, (first_value ∷ [], (second_value ∷ [], tt))), ghost) in
    let Post : Val → SProp 𝓤 = (walk_of 𝓛 ended stays said).post call in
    let of_first : Fml = noted Verdicts first.cell first.known in
    let of_second : ℕ → Fml = λ cell. noted Verdicts cell second.known in
    let first_token : Fml = flft lives.0 shares.0 in
    let second_token : Fml = flft lives.1.0 shares.1.0 in
    qed 𝓛 (((‵ first_token ⊛ ‵ second_token ⊛ ‵ ftrue)
    ⊛ ‵ (owns (types_at ended.signature.params lives) args call.0.4))
    ∷ raw (fact 𝓤 (second.cell ≡ first.cell)) ∷ []) ∵
    move ! (1 ∷ []) $ heard ! (second.cell ≡ first.cell) (λ one_cell.
    split ! $ split3 ! $ move ! (3 ∷ []) $ fsplit3 ! $ fsplit ! $ move ! (2 ∷ []) $ fsplit ! $
    keep ! (3 ∷ 5 ∷ 1 ∷ 6 ∷ 7 ∷ []) $
    enter ! program.C program.Λ code.function (first_value ∷ second_value ∷ []) Post $
    alloc_all ! (λ locals. pass_all ! refl ((tt, tt), ((tt, tt), tt)) $
    use2 𝓛 (later (‵ of_first ⊛ ‵ first_token))
    (note_shown 𝓛 Verdicts first first_at.0 first_at.1 lives.0 shares.0) $
    await ! tt $ split ! $ move ! (2 ∷ 3 ∷ []) $
    use2 𝓛 (later (‵ (of_second second.cell) ⊛ ‵ second_token))
    (note_shown 𝓛 Verdicts second second_at.0 second_at.1 lives.1.0 shares.1.0) $
    await ! tt $ split ! $
    rewrite ! 0 (λ (cell : ℕ). ‵ (of_second cell)) one_cell refl $ move ! (2 ∷ 0 ∷ []) $
    use2 𝓛 (raw (fact 𝓤 (IfSome second.known (Agrees first.known))))
    (noted_agree 𝓛 Verdicts first.cell first.known second.known) $
    move ! (1 ∷ 3 ∷ []) $ join ! $ move ! (2 ∷ 0 ∷ []) $ join ! $
    sets ! (of_opd ! (unit_lit !)) refl (tt, tt) $ feq_i ! (List Val) (vunit ∷ []) (vunit ∷ []) refl $
    nothing ! $ nothing ! $ fjoin ! $ nothing ! $ fjoin ! $
    returns ! (look_at ! 0 refl) $ free_all ! refl $ keep ! (2 ∷ 0 ∷ 1 ∷ 3 ∷ []) $
    by ! (leaves 𝓛 ended stays said call vunit tt (tt, (tt, tt)) (tt, (tt, tt))))))
