use Rattle.std.proofs.Common.{Some, map, string_bytes}
use Rattle.rvmon.proofs.Told.{fault-told, text_of}
use Rattle.rvmon.proofs.listing.tell_fault.Goals as goal

pub returns : goal.returns
returns g c =
    let names = map string_bytes c.args.names.now in
    let status = c.status_of_kind-status.result in
    let number = c.number.result in
    let words = c.as_str.result.now in
    let f = c.args.fault in (
      text_of names status (Some c.args.source) (Some f.row) (Some number) words,
      c.in_ok-failed_line.ensures.written,
      fault-told names c.args.source f status number words c.status_of_kind-status.ensures c.number.ensures,
    )
