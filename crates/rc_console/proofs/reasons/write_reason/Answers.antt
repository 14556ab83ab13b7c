use Rattle.std.proofs.Common.{rules, ◌≡◌, ◌++◌, ◌∙◌, [], ap}
use Rattle.rc_report.specs.declared.engine_fault.EngineFault.{EngineFault}
use Rattle.rc_report.specs.declared.engine_fault.EngineFault.TheVariants.{Write}
use Rattle.rc_report.proofs.Pieces.{writes_along}
use Rattle.rc_console.specs.Faults.{reason_line}
use Rattle.rc_console.proofs.reasons.write_reason.Goals as goal

pub returns-in-Ok : goal.returns-in-Ok
returns-in-Ok g c =
    let told = reason_line c.args.fault.now in
    let empty : c.new-line.result.items ≡ [] = search rules in
    let line : c.deref.result.now ≡ told = c.deref.ensures.value ∙ c.in-Ok.ensures ∙ ap (λ t. t ++ told) empty in
    writes_along (λ (e : EngineFault). e ≡ Write) (g.E.Sink.state c.args.errors.now) (g.E.Sink.state c.write_piece.new.writer) c.deref.result.now told c.write_piece.result line c.write_piece.ensures

pub returns : goal.returns
returns g c = rw (c.as_bytes.ensures.value, c.why.ensures) at c.write_pieces.ensures
