use Rattle.rv_run.proofs.Common.{◌≡◌, ◌+◌, vec_len, get_or, option_map, arith, ap, ◌∙◌, below_more, rules, subst, sym}
use Rattle.rv_run.proofs.Common.{bytes_say, IsFedOf}
use Rattle.rv_run.proofs.driving.Shared.start_and_join.Goals as goal

-- What a joined thread gave keeps the promise of its handle, which was made of its reader, or of
-- the carrier and the cell.
pub returns-clause-fed : goal.returns-clause-fed
returns-clause-fed g c = (
  omega (arith, c.in_ok-fed.ensures.len, c.in_ok-feeders.ensures.len, c.in_ok-fed.fed.ok.0, c.args.readers.ok.0),
  λ i r f below.
      let one = (c.in_ok-fed.ensures.each i f
      (omega (arith, below, c.in_ok-feeders.ensures.len, c.args.readers.ok.0))).1 in
      let is = c.in_ok-feeders.ensures.each i one.handle r (omega (arith, below, c.args.readers.ok.0)) in
      subst (λ x. IsFedOf (option_map (bytes_say c.args.self.now.dialect) (g.R.Read.remaining x))
      (get_or c.in_ok-fed.fed.items i f))
      (ap (λ h. h.promise.0.value) one.handle_is ∙ is.0)
      (subst (λ d. IsFedOf (option_map (bytes_say d) (g.R.Read.remaining one.handle.promise.0.value))
      (get_or c.in_ok-fed.fed.items i f))
      (ap (λ h. h.promise.1.value) one.handle_is ∙ is.1) one.kept),
)

pub returns-clause-served : goal.returns-clause-served
returns-clause-served g c =
    let carrier = c.args.self.now.carrier.now in
    let cell = c.args.self.now.cell.now in
    let all = c.push.new.self.items in
    let before = c.in_ok-served.served.items in
    let done = vec_len c.in_ok-served.served in
    let places = c.push.ensures.by_index in
    let grown : vec_len c.push.new.self ≡ done + 1 = search rules in
    let some = c.requires.workers in
    let joined : done + 1 ≡ c.args.workers =
    omega (arith, some, c.in_ok-served.ensures.len, c.in_ok-servers.ensures.len) in (
      omega (arith, grown, joined, c.push.new.self.ok.0),
      λ i s below. below_more
          (λ k. g.C.Carrier.fits carrier (get_or all k s).seat × ((get_or all k s).note.cell ≡ cell)) done
          (λ k low.
          let same = places.0 k s low in
          let one = (c.in_ok-served.ensures.each k s (omega (arith, low, c.in_ok-served.ensures.len))).1 in
          let is = c.in_ok-servers.ensures.each k one.handle (omega (arith, low, joined, some)) in (
            subst (λ x. g.C.Carrier.fits carrier x.seat) (sym same)
                (subst (λ x. g.C.Carrier.fits x (get_or before k s).seat)
                (ap (λ h. h.promise.0.value) one.handle_is ∙ is.0) one.kept.0),
            ap (λ x. x.note.cell) same ∙ one.kept.1 ∙ (ap (λ h. h.promise.1.value) one.handle_is ∙ is.1),
          ))
          (let same = places.1 s (search rules) in (
            subst (λ x. g.C.Carrier.fits carrier x.seat) (sym same) c.serve_here-last.ensures.seat,
            ap (λ x. x.note.cell) same ∙ c.serve_here-last.ensures.note,
          ))
          i (omega (arith, below, joined)),
    )
