use Rattle.csl_writing.specs.LayoutWriting.{layout_writing}
use Rattle.std.proofs.Common.{◌≡◌, List, ap, sym, ◌∙◌}
use Rattle.std.specs.Prelude.{option_and_then, slice_get}
use Rattle.driver_lookup.specs.States.{year_suffix}
use Rattle.driver_lookup.specs.declared.state.DisambiguateState.{DisambiguateState}
use Rattle.test_callers.proofs.Together.{is-read, suffixes-differ}
use Rattle.test_callers.proofs.clients.letters_of_two.Goals as goal

pub returns-in_ok-letters_of_suffix-in-Some-Some-2 : goal.returns-in_ok-letters_of_suffix-in-Some-Some-2
returns-in_ok-letters_of_suffix-in-Some-Some-2 g c = record {
  got = λ mode job rendered laws.
      let read = is-read g.T.PartialEq.eq g.met.T.Eq.laws g.P.PartialEq.eq (layout_writing g.T.EntryLike.answers) mode job (rendered, c.args.account.now) laws in
      let one = read c.args.first c.in-Some-Some.one
      (ap (λ (l : List DisambiguateState). option_and_then year_suffix (slice_get l c.args.first)) (sym c.deref.ensures.value) ∙ sym c.suffix_at.ensures ∙ c.in-Some-Some.is-0) in
      let other = read c.args.second c.in-Some-Some.other
      (ap (λ (l : List DisambiguateState). option_and_then year_suffix (slice_get l c.args.second)) (sym c.deref-2.ensures.value) ∙ sym c.suffix_at-2.ensures ∙ c.in-Some-Some.is-1) in
      record {
        one = one.got_it;
        other = other.got_it;
        differ = λ ne same_round same_group same.
            suffixes-differ g.T.PartialEq.eq g.met.T.Eq.laws g.P.PartialEq.eq (layout_writing g.T.EntryLike.answers) mode job (rendered, c.args.account.now) laws
            c.args.first c.args.second c.in-Some-Some.one c.in-Some-Some.other one other ne same_round same_group
            (c.suffixes_differ.ensures.different c.in-Some-Some.one c.in-Some-Some.other
            (sym (c.in_ok-letters_of_suffix-in-Some-Some.ensures) ∙ same ∙ c.in_ok-letters_of_suffix-in-Some-Some-2.ensures));
      };
}
