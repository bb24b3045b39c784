-- What is read inside a value nests less deep than the value, and elements are made of elements.
use Rattle.std.proofs.Common.{arith, ap, codes, sym, subst, Option}
use Rattle.serde_json.specs.Data.{depth}
use Rattle.serde_json.specs.View.{view, items_view}
use Rattle.value_styles.specs.Element.{Element}
use Rattle.value_styles.specs.ElementView.{branch_view, element_view}
use Rattle.document_styles.specs.Elements.{branch_form, choose_keys, element_form}
use Rattle.document_values.specs.Reads.{IsErrorOf, Reads}
use Rattle.document_styles.proofs.ListFaults.{optional_fault, required_fault}
use Rattle.document_styles.proofs.Nesting.{item_within, list_within, optional_inside, elements_nest}
use Rattle.document_values.proofs.Progress.{Progress-pushed}
use Rattle.document_styles.proofs.elements.+elements.Goals as goal

pub element_of-returns-clause-read : goal.element_of-returns-clause-read
element_of-returns-clause-read t c =
    let result = c.element_of_kind.result in
    subst (λ (o : Option Element). Reads element_view result o) (sym (elements_nest (view c.args.value.now))) c.element_of_kind.ensures.read

pub all_elements-element_of-requires : goal.all_elements-element_of-requires
all_elements-element_of-requires t c =
    (omega (arith, item_within c.args.items.now c.loop-place.place c.index-items-place.result c.loop-place-test.true c.index-items-place.is), tt)

pub all_branches-branch_of-requires : goal.all_branches-branch_of-requires
all_branches-branch_of-requires t c =
    (omega (arith, item_within c.args.items.now c.loop-place.place c.index-items-place.result c.loop-place-test.true c.index-items-place.is), tt)

pub elements_at-all_elements-requires : goal.elements_at-all_elements-requires
elements_at-all_elements-requires t c =
    (omega (arith, list_within c.args.key.now (view c.args.object.now) (items_view c.in_ok-list.list.now) c.in_ok-list.ensures.read), tt)

pub branches_at-all_branches-requires : goal.branches_at-all_branches-requires
branches_at-all_branches-requires t c =
    (omega (arith, list_within (codes "branches") (view c.args.object.now) (items_view c.in_ok-list.list.now) c.in_ok-list.ensures.read), tt)

pub group_of-elements_at-requires : goal.group_of-elements_at-requires
group_of-elements_at-requires t c = (omega (arith, ap (λ v. depth (view v)) c.in_ok-object.ensures.same), tt)

pub branch_of-elements_at-requires : goal.branch_of-elements_at-requires
branch_of-elements_at-requires t c = (omega (arith, ap (λ v. depth (view v)) c.in_ok-object.ensures.same), tt)

pub choose_of-branches_at-requires : goal.choose_of-branches_at-requires
choose_of-branches_at-requires t c = (omega (arith, ap (λ v. depth (view v)) c.in_ok-object.ensures.same), tt)

pub choose_of-all_elements-requires : goal.choose_of-all_elements-requires
choose_of-all_elements-requires t c =
    (omega (arith, optional_inside choose_keys (codes "else") (view c.args.value.now) (view c.in_ok-object.object.now) (items_view c.in_ok-last.last.now) c.in_ok-object.ensures.read c.in_ok-last.ensures.read), tt)

pub all_elements-loop-place-preserved : goal.all_elements-loop-place-preserved
all_elements-loop-place-preserved t c =
    Progress-pushed element_form element_view _ _ _ _ _ _ c.loop-place-test.true c.index-items-place.is c.in-Ok.ensures.read c.in_ok-push-in-Ok.ensures.items c.loop-place.invariant

pub all_branches-loop-place-preserved : goal.all_branches-loop-place-preserved
all_branches-loop-place-preserved t c =
    Progress-pushed (branch_form element_form) branch_view _ _ _ _ _ _ c.loop-place-test.true c.index-items-place.is c.in-Ok.ensures.read c.in_ok-push-in-Ok.ensures.items c.loop-place.invariant

pub branches_at-returns-in-Err-clause-fault : goal.branches_at-returns-in-Err-clause-fault
branches_at-returns-in-Err-clause-fault t c =
    let object = view c.args.object.now in
    required_fault (codes "branches") object (items_view c.in_ok-list.list.now) c.in-Err.error c.under.result c.in_ok-list.ensures.read
    c.in-Err.ensures.fault (c.under.ensures.fault object)

pub choose_of-returns-in-Err-clause-fault : goal.choose_of-returns-in-Err-clause-fault
choose_of-returns-in-Err-clause-fault t c =
    let object = view c.in_ok-object.object.now in
    subst (λ v. IsErrorOf c.under.result (view v)) c.in_ok-object.ensures.same
    (optional_fault element_form (codes "else") object (items_view c.in_ok-last.last.now) c.in-Err.error c.under.result c.in_ok-last.ensures.read
    c.in-Err.ensures.read c.in-Err.ensures.fault c.under.ensures.refuses (c.under.ensures.fault object))
