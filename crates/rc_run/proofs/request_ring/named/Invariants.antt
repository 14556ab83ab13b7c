use Rattle.std.proofs.Common.{◌≡◌, drop}
use Rattle.rc_run.specs.Requests.{named}
use Rattle.rc_run.proofs.request_ring.named.Given as goal

abbrev pub invariant-loop-serial : goal.invariant-loop-serial
invariant-loop-serial l = named l.user_data (drop l.serial-index l.serials) ≡ named l.user_data l.serials
