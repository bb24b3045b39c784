-- Styles are read one after another, each of which the object has under its name.
use Rattle.document_styles.specs.NamedStyleView.{named_styles_view}
use Rattle.document_styles.specs.Styles.{style_form}
use Rattle.document_styles.proofs.Members.{AreFound, MembersProgress}
use Rattle.document_styles.proofs.styles.all_styles.Given as goal

abbrev pub invariant-loop-name : goal.invariant-loop-name
invariant-loop-name l = record {
  progress : MembersProgress style_form l.members.entries l.name-iterator (named_styles_view l.styles.items);
  found : AreFound l.members.entries l.name-iterator;
}
