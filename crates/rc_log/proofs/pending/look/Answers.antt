use Rattle.std.proofs.Common.{◌<◌, ◌≤◌, length, take, arith}
use Rattle.std.proofs.lemmas.List.{length-take}
use Rattle.rc_log.proofs.Logs.{is_line_feed, sees_end, sees_line, sees_long, sees_nothing}
use Rattle.rc_log.proofs.pending.look.Goals as goal

pub returns-in-Some : goal.returns-in-Some
returns-in-Some c =
    let bytes = c.args.bytes.now in
    let count = c.min-count.result in
    let high = c.in-Some.ensures.0.high in
    let n = length-take count bytes in (
      omega (arith, n, high),
      λ more. sees_end bytes count c.in-Some.i more (omega (arith, n, high)) (omega (arith, n, high)) c.in-Some.ensures.0.before c.if-bytes-i-eq0.true,
    )

pub returns-in-Some-2 : goal.returns-in-Some-2
returns-in-Some-2 c =
    let bytes = c.args.bytes.now in
    let count = c.min-count.result in
    let i = c.in-Some.i in
    let high = c.in-Some.ensures.0.high in
    let n = length-take count bytes in
    let below : i < count = omega (arith, n, high) in
    let within : i < length bytes = omega (arith, n, high) in
    let feed = is_line_feed bytes count i below c.in-Some.ensures.1 c.if-bytes-i-eq0.false in (
      within,
      omega (arith, below, c.min-count.ensures),
      λ more. sees_line bytes count i more (omega (arith, below)) within c.in-Some.ensures.0.before feed,
    )

pub returns-in-None : goal.returns-in-None
returns-in-None c = λ more.
    let count = c.min-count.result in
    let e = c.min-count.ensures in
    let many = c.if-count-gt-MOST_BYTES.true in
    sees_long c.args.bytes.now count more (omega (arith, e)) (omega (arith, many)) c.in-None.ensures

pub returns-in-None-2 : goal.returns-in-None-2
returns-in-None-2 c =
    let bytes = c.args.bytes.now in
    let count = c.min-count.result in
    let e = c.min-count.ensures in
    let few = c.if-count-gt-MOST_BYTES.false in
    (omega (arith, e, few), sees_nothing bytes count (omega (arith, e, few)) c.in-None-2.ensures)
