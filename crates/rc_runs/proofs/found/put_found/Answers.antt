use Rattle.rc_report.proofs.Pieces.{append-[]}
use Rattle.rc_text.proofs.Texts.{puts_after}
use Rattle.rc_runs.proofs.found.put_found.Goals as goal

pub returns-in-Some : goal.returns-in-Some
returns-in-Some c = rw c.in-Some.is (puts_after c.args.text.now c.print_verdict.new.text c.put_search.new.text _ _ c.put_search.result c.in_ok-print_verdict.ensures c.put_search.ensures)

pub returns-in-None : goal.returns-in-None
returns-in-None c = rw (c.in-None.is, append-[] _) c.in_ok-print_verdict.ensures
