use Rattle.std.proofs.Common.{◌≡◌, ◌∙◌, List, ap, inr, map, string_bytes, subst}
use Rattle.std.proofs.lemmas.Result.{IfOk-weaker}
use Rattle.clap.specs.Words.{Text}
use Rattle.rvmon.specs.Listing.{IsTraceTold}
use Rattle.rvmon.proofs.listing.Judge.tell_line.Goals as goal

pub returns : goal.returns
returns g c =
    let names = map string_bytes c.in-Ok.files.items in
    let ending = c.answer-ending.result in
    let same : map string_bytes c.as_slice.result.now ≡ names =
    ap (map string_bytes) c.as_slice.ensures.value ∙ c.request_of-asked.ensures.request.files in
    IfOk-weaker c.tell_ending.result _ _ (λ status told. (
      told.0,
      told.1,
      inr (record {
        names = names;
        are_names = c.in-Ok.ensures.names;
        asked = c.request_of-asked.result;
        is_request = c.request_of-asked.ensures.request;
        ending = ending;
        ends = c.answer-ending.ensures;
        told = subst (λ (ns : List Text). IsTraceTold ns ending told.0 status) same told.2;
      }),
    )) c.tell_ending.ensures
