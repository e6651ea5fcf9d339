use Rattle.std.proofs.Common.{None, map, refl, string_bytes}
use Rattle.rvmon.proofs.Told.{failure-told, text_of}
use Rattle.rvmon.proofs.listing.tell_failure.Goals as goal

pub returns : goal.returns
returns g c =
    let names = map string_bytes c.args.names.now in (
      refl,
      (
        text_of names c.args.status None None None c.args.text.now,
        c.in_ok-failed_line.ensures.written,
        failure-told names c.args.status c.args.text.now,
      ),
    )
