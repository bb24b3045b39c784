-- Total orders that tell all values apart, and the order of lists by them.
use Rattle.std.proofs.Common.{◌≡◌, sym, ap, ◌∙◌, rules, is_eq, refl}
use Rattle.std.specs.Ordering.{eq_by_cmp, nat_cmp}
use Rattle.std.specs.Cmp.{Equal-is, on_total}
use Rattle.std.specs.Cmp.Lexicographic.{slice_cmp, lists_total, lists_ties}
use Rattle.std.specs.declared.cmp.Ordering.{Ordering}
use Rattle.value_sources.specs.Finds.{Finds, lists_find}
use Rattle.value_sources.specs.Ordered.{IsValueOrder, extent, form_cmp, properties_cmp}
use Rattle.value_sources.specs.declared.names.DisambiguatedNameForm.{DisambiguatedNameForm}
use Rattle.value_sources.specs.declared.names.NameDisambiguationProperties.{NameDisambiguationProperties}

module _ {K : Type 0} {cmp : K → K → Ordering} (order : IsValueOrder cmp) where
  ties_find : Finds (eq_by_cmp cmp)
  ties_find = record { equal = λ a b e. order.equal a b ((Equal-is (cmp a b)).0 e); self = λ a. ap is_eq (order.self a) }

  lists_in_order : IsValueOrder (slice_cmp cmp)
  lists_in_order = record {
    total = lists_total order.total;
    equal = λ xs ys e. (lists_find ties_find).equal xs ys (lists_ties cmp (λ x y. refl) xs ys ∙ ap is_eq e);
    self = λ xs. (Equal-is (slice_cmp cmp xs xs)).0 (sym (lists_ties cmp (λ x y. refl) xs xs) ∙ (lists_find ties_find).self xs);
  }

pub forms_in_order : IsValueOrder form_cmp
forms_in_order = search rules

pub forms_by_extent : (a b : DisambiguatedNameForm) → form_cmp a b ≡ nat_cmp (extent a) (extent b)
forms_by_extent DisambiguatedNameForm.Count DisambiguatedNameForm.Count = refl
forms_by_extent DisambiguatedNameForm.Count DisambiguatedNameForm.Short = refl
forms_by_extent DisambiguatedNameForm.Count DisambiguatedNameForm.LongInitialized = refl
forms_by_extent DisambiguatedNameForm.Count DisambiguatedNameForm.LongFull = refl
forms_by_extent DisambiguatedNameForm.Short DisambiguatedNameForm.Count = refl
forms_by_extent DisambiguatedNameForm.Short DisambiguatedNameForm.Short = refl
forms_by_extent DisambiguatedNameForm.Short DisambiguatedNameForm.LongInitialized = refl
forms_by_extent DisambiguatedNameForm.Short DisambiguatedNameForm.LongFull = refl
forms_by_extent DisambiguatedNameForm.LongInitialized DisambiguatedNameForm.Count = refl
forms_by_extent DisambiguatedNameForm.LongInitialized DisambiguatedNameForm.Short = refl
forms_by_extent DisambiguatedNameForm.LongInitialized DisambiguatedNameForm.LongInitialized = refl
forms_by_extent DisambiguatedNameForm.LongInitialized DisambiguatedNameForm.LongFull = refl
forms_by_extent DisambiguatedNameForm.LongFull DisambiguatedNameForm.Count = refl
forms_by_extent DisambiguatedNameForm.LongFull DisambiguatedNameForm.Short = refl
forms_by_extent DisambiguatedNameForm.LongFull DisambiguatedNameForm.LongInitialized = refl
forms_by_extent DisambiguatedNameForm.LongFull DisambiguatedNameForm.LongFull = refl

pub properties_in_order : IsValueOrder properties_cmp
properties_in_order =
    let lists = lists_in_order forms_in_order in
    record {
      total = on_total (λ (p : NameDisambiguationProperties). p.forms) lists.total;
      equal = λ a b e. λ i. record { forms = lists.equal a.forms b.forms e i };
      self = λ a. lists.self a.forms;
    }
