use Rattle.std.proofs.Common.{◌≤◌, arith, ap, ◌∙◌, drop, min}
use Rattle.rc_device.specs.Files.{place_of}
use Rattle.rc_device.proofs.Moves.{rest_stays}
use Rattle.rc_device.proofs.disk.Disk.serve_granted.Goals as goal

pub returns-in-Read-clause-rest : goal.returns-in-Read-clause-rest
returns-in-Read-clause-rest c =
    let few : min c.args.request.now.len c.args.grant ≤ c.args.request.now.len = omega arith in
    ap (drop c.args.request.now.len) c.read.ensures.bytes
    ∙ rest_stays c.args.self.now c.args.bytes.now c.args.request.now.off (min c.args.request.now.len c.args.grant) c.args.request.now.len few (place_of c.args.self.now c.args.request.now.fd)
