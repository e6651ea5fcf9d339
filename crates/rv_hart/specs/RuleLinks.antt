-- The links of a hart's new event by the rules of preserved program order.
use Rattle.std.specs.Prelude.{ℕ, ◌≡◌, ◌⊎◌, List, Contains}
use Rattle.rv_event.specs.Preserved.{Rule, IsPreserved}
use Rattle.rv_event.specs.Edges.{IsLowest}
use Rattle.rv_event.specs.declared.event.Event.{Event}
use Rattle.rv_event.specs.declared.reason.Link.{Link}
use Rattle.rv_event.specs.declared.reason.Reason.TheVariants.{Preserved}
use Rattle.rv_cover.specs.Carries.{IsSplit}
use Rattle.rv_cover.specs.Thinned.{Names, IsUnsplit}
use Rattle.rv_hart.specs.Harts.{Hart, followed}

-- the link is a rule that orders its event before the new one
pub record IsRuleLink (h : Hart) (e : Event) (l : Link) : Type 0 where
  pub rule : ℕ
  pub reason : l.reason ≡ Preserved rule
  pub preserved : IsPreserved h.model (followed h e) rule l.id e.id

-- Each link is a rule under its lowest number. Each event that a rule orders before the new one is
-- linked, or another splits the rule; none is linked where another event stands between by two
-- rules.
pub record AreRuleLinks (h : Hart) (e : Event) (links : List Link) : Type 0 where
  pub rules : (l : Link) → Contains links l → IsRuleLink h e l
  pub lowest : (l : Link) → Contains links l → IsLowest h.model (followed h e) l.id l.reason e.id
  pub carried :
      (k : ℕ) (a : Event) → Contains h.events a → Rule h.model (followed h e) k a e →
      Names links a.id ⊎ IsSplit h.model h.events (followed h e) (Preserved k) a e
  pub unsplit : IsUnsplit h.model h.events e links

-- Each link that names a rule is such a rule. Each event that a rule orders before the new one is
-- linked, for whatever reason, or another splits the rule.
pub record AreEnoughLinks (h : Hart) (e : Event) (links : List Link) : Type 0 where
  pub rules :
      (l : Link) (k : ℕ) → Contains links l → l.reason ≡ Preserved k → IsPreserved h.model (followed h e) k l.id e.id
  pub carried :
      (k : ℕ) (a : Event) → Contains h.events a → Rule h.model (followed h e) k a e →
      Names links a.id ⊎ IsSplit h.model h.events (followed h e) (Preserved k) a e
