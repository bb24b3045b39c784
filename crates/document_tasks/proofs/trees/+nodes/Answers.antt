-- What is read inside a value nests less deep than the value, and nodes are made of nodes.
use Rattle.std.proofs.Common.{arith, ap, codes, sym, subst, Option}
use Rattle.serde_json.specs.Data.{depth}
use Rattle.serde_json.specs.View.{view, items_view}
use Rattle.value_trees.specs.Child.{Child}
use Rattle.value_trees.specs.ChildView.{child_view}
use Rattle.document_styles.proofs.ListFaults.{required_fault}
use Rattle.document_styles.proofs.Nesting.{item_within, list_within}
use Rattle.document_values.specs.Reads.{Reads}
use Rattle.document_tasks.proofs.Nesting.{nodes_nest}
use Rattle.document_tasks.proofs.trees.+nodes.Goals as goal

pub node_of-returns-clause-read : goal.node_of-returns-clause-read
node_of-returns-clause-read t c =
    let result = c.node_of_kind.result in
    subst (λ (o : Option Child). Reads child_view result o) (sym (nodes_nest (view c.args.value.now))) c.node_of_kind.ensures.read

pub all_nodes-node_of-requires : goal.all_nodes-node_of-requires
all_nodes-node_of-requires t c =
    (omega (arith, item_within c.args.items.now c.loop-place.place c.index-items-place.result c.loop-place-test.true c.index-items-place.is), tt)

pub children_at-all_nodes-requires : goal.children_at-all_nodes-requires
children_at-all_nodes-requires t c =
    (omega (arith, list_within (codes "children") (view c.args.object.now) (items_view c.in_ok-list.list.now) c.in_ok-list.ensures.read), tt)

pub element_of-children_at-requires : goal.element_of-children_at-requires
element_of-children_at-requires t c = (omega (arith, ap (λ v. depth (view v)) c.in_ok-object.ensures.same), tt)

pub children_at-returns-in-Err-clause-fault : goal.children_at-returns-in-Err-clause-fault
children_at-returns-in-Err-clause-fault t c =
    let object = view c.args.object.now in
    required_fault (codes "children") object (items_view c.in_ok-list.list.now) c.in-Err.error c.under.result c.in_ok-list.ensures.read
    c.in-Err.ensures.fault (c.under.ensures.fault object)
