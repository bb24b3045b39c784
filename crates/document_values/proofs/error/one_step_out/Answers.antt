-- One more step leads to the part.
use Rattle.std.proofs.Common.{◌≡◌, subst}
use Rattle.document_values.specs.Faults.{IsFaultOf}
use Rattle.document_values.proofs.Ways.{found_inside}
use Rattle.document_values.proofs.error.one_step_out.Goals as goal

pub returns-in-Ok : goal.returns-in-Ok
returns-in-Ok c =
    let inner = c.deref_mut.result.now in
    let same : c.args.fault.value ≡ inner = cc in
    λ whole part h was. found_inside inner.path.items c.push.new.self.items c.args.step whole part inner.found c.in-Ok.ensures.items h
    (subst (λ f. IsFaultOf f part) same was)
