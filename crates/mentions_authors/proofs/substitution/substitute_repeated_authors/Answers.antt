-- What is told of each item is written.
use Rattle.std.proofs.Common.{length, option_map, arith, ap, sym, ◌∙◌}
use Rattle.std.proofs.lemmas.Result.{on_ok_weaker}
use Rattle.mentions_authors.specs.Substitution.{each_substituted, items_view, with_substitute}
use Rattle.mentions_authors.proofs.Repeating.{length-repeats, length-view}
use Rattle.mentions_authors.proofs.substitution.substitute_repeated_authors.Goals as goal

pub rewrite_each-requires : goal.rewrite_each-requires
rewrite_each-requires c =
    let items = c.args.items.now in
    let whole = ap length (c.deref.ensures.value ∙ c.in_ok-told-in-Some.ensures) ∙ length-repeats c.args.rule (items_view items) ∙ length-view items in
    omega (arith, whole)

pub returns-in_ok-told-in-Some : goal.returns-in_ok-told-in-Some
returns-in_ok-told-in-Some c =
    let items = items_view c.args.items.now in
    let text = c.add_text-text.ensures ∙ (λ i. record { text = c.in_ok-from_str-in-Some.ensures.ok i; formatting = c.default.ensures i }) in
    let told = c.deref.ensures.value ∙ c.in_ok-told-in-Some.ensures in
    on_ok_weaker c.rewrite_each.result
    (λ e. e ∙ (λ i. each_substituted (text i) (told i) items) ∙ sym (ap (λ s. with_substitute (option_map (λ b. b.now) s) c.args.rule items) c.in-Some.is))
    c.rewrite_each.ensures
