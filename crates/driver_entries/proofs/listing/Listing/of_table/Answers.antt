use Rattle.std.proofs.Common.{ap, nat_eq, ◌≡◌, ◌∙◌, length}
use Rattle.std.proofs.lemmas.List.{length-replicate}
use Rattle.std.specs.List.{filter_map, position, range_with_len}
use Rattle.std.specs.Prelude.{None, unwrap_or, []}
use Rattle.driver_entries.specs.Entries.{with_all_new}
use Rattle.driver_entries.specs.TableView.{table_view}
use Rattle.driver_passes.specs.RequestView.{order_view}
use Rattle.driver_entries.proofs.Numbers.{unnumbered}
use Rattle.driver_entries.proofs.Orders.{listing-is}
use Rattle.driver_entries.proofs.listing.Listing.of_table.Goals as goal

pub list_order-requires : goal.list_order-requires
list_order-requires g c = record {
  count = ap length c.in_ok-listing.ensures.numbers ∙ length-replicate c.len.result None ∙ c.len.ensures;
  sound = unnumbered c.len.result c.in_ok-listing.listing.numbers.items c.in_ok-listing.listing.order.items c.in_ok-listing.ensures.empty c.in_ok-listing.ensures.numbers;
}

pub returns : goal.returns
returns g c =
    let eq = g.T.PartialEq.eq in
    let es = (table_view c.args.table.now).entries in
    let handed = filter_map (λ e. position (eq e) es) (unwrap_or (order_view c.args.order) []) in
    let all : length c.list_order.new.self.numbers.items ≡ length es =
    c.in_ok-list_order.ensures.count ∙ ap length c.in_ok-listing.ensures.numbers ∙ length-replicate c.len.result None ∙ c.len.ensures in
    listing-is eq g.met.T.Eq.laws (order_view c.args.order) es c.list_others.new.self
    (c.in_ok-list_others.ensures.listed
    ∙ ap (λ l. with_all_new nat_eq l (range_with_len 0 (length c.list_order.new.self.numbers.items)))
    (c.in_ok-list_order.ensures.listed ∙ ap (λ l. with_all_new nat_eq l handed) c.in_ok-listing.ensures.empty)
    ∙ ap (λ n. with_all_new nat_eq (with_all_new nat_eq [] handed) (range_with_len 0 n)) all)
    (c.in_ok-list_others.ensures.count ∙ all)
    c.in_ok-list_others.ensures.sound
