-- Styles are read one after another, each of which the object has under its name.
use Rattle.document_styles.specs.NamedStyleView.{named_styles_view}
use Rattle.document_styles.proofs.Members.{AreFound}
use Rattle.document_driven.proofs.DrivenMembers.{DrivenProgress}
use Rattle.document_driven.proofs.styles.all_styles.Given as goal

abbrev pub invariant-loop-name : goal.invariant-loop-name
invariant-loop-name l = record {
  progress : DrivenProgress l.members.entries l.name-iterator (named_styles_view l.styles.items);
  found : AreFound l.members.entries l.name-iterator;
}
