-- What is planned is carried out.
use Rattle.std.proofs.Common.{length, map, option_map, arith, ap, refl, ◌∙◌, None}
use Rattle.std.proofs.lemmas.List.{length-map}
use Rattle.rounds_substitution.specs.ItemView.{rendered_items_view}
use Rattle.rounds_substitution.proofs.Planning.{all_substituted, plan-length}
use Rattle.rounds_substitution.proofs.Staying.{kept, kept-on_ok}
use Rattle.rounds_substitution.proofs.substitution.substitute_subsequent_authors.Goals as goal

pub carry_out-requires : goal.carry_out-requires
carry_out-requires c =
    let items = c.args.items.now in
    let whole = ap length (c.deref.ensures.value ∙ c.in_ok-plan-in-Some.ensures) ∙ plan-length c.args.rule None (map (λ p. p.0) items) ∙ length-map items (λ p. p.0) in
    omega (arith, whole)

pub returns-in-None-clause-laws : goal.returns-in-None-clause-laws
returns-in-None-clause-laws c = kept None c.args.rule (rendered_items_view c.args.items.now) (rendered_items_view c.args.items.now) refl

pub returns-in_ok-plan-in-Some : goal.returns-in_ok-plan-in-Some
returns-in_ok-plan-in-Some c =
    let text = c.add_text-text.ensures ∙ (λ i. record { text = c.in_ok-from_str-in-Some.ensures.ok i; formatting = c.default.ensures i }) in
    let done =
    all_substituted c.carry_out.result c.args.rule c.args.substitute c.in-Some.substitute c.add_text-text.result c.deref.result.now c.carry_out.new.items c.args.items.now
    c.in-Some.is text (c.deref.ensures.value ∙ c.in_ok-plan-in-Some.ensures) c.carry_out.ensures.trees c.carry_out.ensures.keys in
    record {
      substituted = done;
      laws = kept-on_ok c.carry_out.result (option_map (λ s. s.now) c.args.substitute) c.args.rule (rendered_items_view c.args.items.now) (rendered_items_view c.carry_out.new.items) done;
    }
