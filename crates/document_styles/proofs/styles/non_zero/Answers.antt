-- What was made of the number, or that nothing was.
use Rattle.std.proofs.Common.{w16}
use Rattle.std.proofs.lemmas.Int.{to_z-of_z}
use Rattle.document_styles.proofs.NonZero.{non_zero_made}
use Rattle.document_styles.proofs.styles.non_zero.Goals as goal

pub returns : goal.returns
returns c = non_zero_made c.args.number _ c.new.result (to_z-of_z w16 c.args.number c.ranges.number) c.new.ensures
