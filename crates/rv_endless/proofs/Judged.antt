-- How the next entry of a hart is answered.
use Rattle.rv_endless.proofs.Accepted.{forbidden-by-past, forbidden-by-window, stands-more}
use Rattle.rv_endless.proofs.Misfits.{by-window}
use Rattle.rv_endless.proofs.Next.{fault-fits, first, full, gone, hart}
use Rattle.rv_endless.specs.Runs.{HasStopped, IsAnswered, IsEdgeIntoPast, IsNext, StandsFor, in_window, limit}
use Rattle.rv_endless.specs.Steps.{IsEdgeExplained, IsOffered}
use Rattle.rv_endless.specs.declared.answer.Answer.{Answer}
use Rattle.rv_endless.specs.declared.answer.Answer.TheVariants.{Accepted, BeforePast, Forbidden}
use Rattle.rv_endless.specs.declared.answer.Answer.TheVariants.{Malformed, NoMemory, Stopped, Taken}
use Rattle.rv_endless.specs.declared.run.Endless.{Endless}
use Rattle.rv_event.proofs.Indexed.{SoundWithin, sound_from_none}
use Rattle.rv_event.proofs.Names.{Contains-map}
use Rattle.rv_event.specs.Faults.{deps_fault, fault_of, fault_within, source_fault}
use Rattle.rv_event.specs.Log.{events}
use Rattle.rv_event.specs.Operations.{IsStore}
use Rattle.rv_event.specs.declared.event.Entry.{Entry}
use Rattle.rv_event.specs.declared.event.Event.{Event}
use Rattle.rv_event.specs.declared.fault.Fault.{Fault}
use Rattle.rv_past.specs.Before.{IsFree}
use Rattle.rv_past.specs.Facts.{Fits}
use Rattle.rv_past.specs.declared.edge.PastEdge.{PastEdge}
use Rattle.rv_settle.specs.Past.{ComesBeforePast}
use Rattle.std.proofs.Common.{ℕ, ◌≡◌, ◌∙◌, ◌++◌, ◌∷◌, [], List, None, Option, Some, ap}
use Rattle.std.proofs.Common.{arith, option_map, refl, subst, sym}
use Rattle.std.proofs.lemmas.Bool.{false≢true}
use Rattle.std.proofs.lemmas.Grind.{common_steps}
use Rattle.rv_endless.specs.declared.answer.Answer.TheVariants as answer

module _ (run : Endless) (log : List Entry) (x : Entry) (stands : StandsFor run log) (next : IsNext run x) where
  abbrev n : ℕ
  n = first run log x stands next (hart run log x stands next)

  abbrev forgotten : List Entry
  forgotten = gone run log x stands next

  abbrev found : Option Fault
  found = fault_of run.book.log (in_window run x)

  abbrev Before : Type 0
  Before = ComesBeforePast (events (log ++ x ∷ [])) stands.cut.past x.event

  -- an entry that fits what was forgotten, and has no fault, writes a version that is free
  pub is-free : Fits forgotten n x → fault_within limit log x ≡ None → IsFree (events forgotten) x.event
  is-free fits none = record {
    positive = λ store. let above = sound.positive store in grind (arith, common_steps, above);
    free = λ p c store-p store word same.
        let y = Contains-map (λ (z : Entry). z.event) forgotten p c in
        fits.free store (record {
          store = y.0;
          of_gone = y.1;
          is_store = subst (λ (e : Event). IsStore e) (sym y.2) store-p;
          word = ap (λ (e : Event). e.word) y.2 ∙ word;
          wrote = ap (λ (e : Event). e.wrote) y.2 ∙ same;
        });
  }
    where
      sound : SoundWithin limit (events log) x.event
      sound = sound_from_none (events log) x.event (source_fault log x ∷ deps_fault x.event ∷ []) none

  module _ (after : Endless) (told : Answer) where
    -- where the entry comes before the past, it is answered by its fault, and else by the edge
    pub edge-explained : (edge : PastEdge) → Fits forgotten n x →
        (fault_within limit log x ≡ None → Before × IsEdgeIntoPast run log x edge) → HasStopped run after →
        IsEdgeExplained run.firsts (hart run log x stands next) edge found told → IsAnswered run after log x told
    edge-explained edge fits before stopped is = go found refl is
      where
        go : (o : Option Fault) → found ≡ o → IsEdgeExplained run.firsts (hart run log x stands next) edge o told →
            IsAnswered run after log x told
        go (Some f) at in-full = by-window run log x stands next after told stopped f
            (fault-fits run log x stands next fits ∙ ap (option_map (full run log x stands next)) at) in-full
        go None at past =
            let sound = fault-fits run log x stands next fits ∙ ap (option_map (full run log x stands next)) at in
            let leads = before sound in
            subst (IsAnswered run after log x) (sym past)
            (forbidden-by-past run log x stands next sound leads.0, leads.1, stopped)

    -- and else as the window answers it
    pub offered : Fits forgotten n x → (fault_within limit log x ≡ None → Before → ⊥) →
        IsOffered run after (in_window run x) told → IsAnswered run after log x told
    offered fits not is = go told refl is
      where
        sound-from : found ≡ None → fault_within limit log x ≡ None
        sound-from at = fault-fits run log x stands next fits ∙ ap (option_map (full run log x stands next)) at

        go : (a : Answer) → told ≡ a → IsOffered run after (in_window run x) a → IsAnswered run after log x told
        go Accepted at (taken, same) =
            let sound = sound-from taken.sound in
            subst (IsAnswered run after log x) (sym at) (
              sound,
              subst (λ (r : Endless). StandsFor r (log ++ x ∷ [])) (sym same)
                  (stands-more run log x stands next sound (not sound) taken.lawful after taken.log
                  taken.model taken.stopped),
            )
        go (Malformed f) at ((g, fault, in-full), stopped) =
            subst (IsAnswered run after log x) (sym at) (by-window run log x stands next after (Malformed f) stopped g
            (fault-fits run log x stands next fits ∙ ap (option_map (full run log x stands next)) fault) in-full)
        go Taken at none = absurd none
        go (Forbidden r) at (on, stopped) =
            subst (IsAnswered run after log x) (sym at)
            (forbidden-by-window run log x stands next (sound-from on.sound) on.none, on, stopped)
        go (BeforePast edge) at none = absurd none
        go (answer.Beyond b) at none = absurd none
        go Stopped at halted = absurd (false≢true (sym stands.book_going ∙ halted))
        go NoMemory at same = subst (IsAnswered run after log x) (sym at) same
