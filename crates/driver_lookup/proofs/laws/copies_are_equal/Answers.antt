use Rattle.std.proofs.Common.{◌≡◌, rules}
use Rattle.driver_lookup.proofs.Copies.{state_copied, payload_copied, locator_copied, speculative_copied}
use Rattle.driver_lookup.proofs.laws.copies_are_equal.Goals as goal

pub returns : goal.returns
returns g c =
    let any = g.P.Destruct-dict in
    let speculative = speculative_copied g.row.P any in
    record {
      state = state_copied;
      means = λ a b h. h;
      shared = λ a b h. h;
      payload = payload_copied g.row.P any;
      locator = locator_copied g.row.P any;
      speculative = speculative;
      properties = λ a b h.
          let certain : b.certain ≡ a.certain = search rules in
          let rest = speculative a.speculative b.speculative h.1 in
          λ i. record { certain = certain i; speculative = rest i };
    }
