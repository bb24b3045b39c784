-- One more style was read, or its error is one of the object.
use Rattle.std.proofs.Common.{ap, sym, subst, ◌∙◌}
use Rattle.std.specs.Map.Iter.{deref_pair}
use Rattle.std.proofs.lemmas.Map.Iter.{rest_more}
use Rattle.serde_json.specs.Data.{object}
use Rattle.serde_json.specs.Find.{get_member}
use Rattle.serde_json.specs.View.{view, members_view}
use Rattle.document_styles.specs.NamedStyleView.{named_style_view, named_styles_view}
use Rattle.document_styles.proofs.Members.{AreFound-start, AreFound-next, AreFound-first}
use Rattle.document_driven.proofs.DrivenMembers.{DrivenProgress, DrivenProgress-start, DrivenProgress-pushed, driven_member}
use Rattle.document_driven.proofs.styles.all_styles.Goals as goal

pub loop-name-init : goal.loop-name-init
loop-name-init c =
    let given = c.into_iter-name-iterator.ensures.into_iter_gives in
    let members = c.args.members.now.entries in
    let rest = c.into_iter-name-iterator.result in
    record {
      progress = subst (λ styles. DrivenProgress members rest (named_styles_view styles)) (sym c.new-styles.ensures.items)
          (DrivenProgress-start members rest given.0);
      found = AreFound-start c.args.members.now _ given.0 given.6;
    }

pub loop-name-preserved : goal.loop-name-preserved
loop-name-preserved c =
    let left = rest_more deref_pair c.loop-name.name-iterator c.next.new.self c.next.result (c.in-Some.name, c.in-Some.member) c.in-Some.is c.next.ensures.steps in
    record {
      progress = DrivenProgress-pushed named_style_view _ _ _ _ _ (c.in-Some.name.now, c.in-Some.member.now) _ left
          (ap (λ name. driven_member name (view c.in-Some.member.now)) (sym c.as_str-key.ensures.value) ∙ c.in-Ok.ensures.read) c.in_ok-push-in-Ok.ensures.items c.loop-name.invariant.progress;
      found = AreFound-next _ _ _ (c.in-Some.name.now, c.in-Some.member.now) left c.loop-name.invariant.found;
    }

pub returns-in-Err-clause-fault : goal.returns-in-Err-clause-fault
returns-in-Err-clause-fault c =
    let left = rest_more deref_pair c.loop-name.name-iterator c.next.new.self c.next.result (c.in-Some.name, c.in-Some.member) c.in-Some.is c.next.ensures.steps in
    let members = members_view c.args.members.now.entries in
    let there = AreFound-first _ _ _ (c.in-Some.name.now, c.in-Some.member.now) left c.loop-name.invariant.found in
    c.under.ensures.fault (object members) (view c.in-Some.member.now) (ap (λ key. get_member key members) c.as_str-key.ensures.value ∙ there) c.in-Err.ensures.fault
