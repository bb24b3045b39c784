-- What samples answer, and when they are equal.
use Rattle.std.specs.Prelude.{◌≡◌, Bool, true, [], None, refl}
use Rattle.value_sources.specs.Answers.{Answers}
use Rattle.driver_writers.specs.Writing.{Writing}
use Rattle.csl_writing.specs.LayoutWriting.{layout_writing}
use Rattle.test_wrong_answers.specs.contracts.sample.SamplePartialEq.TheImpl as sample_eq
use Rattle.test_wrong_answers.specs.declared.sample.Sample.{Sample}

abbrev pub silent : Sample → Answers
silent s = record {
  key = [];
  label = None;
  names = λ v. [];
  date = λ v. None;
  text = λ v. None;
  number = λ v. None;
}

abbrev pub same_sample : Sample → Sample → Bool
same_sample = (sample_eq.ghosts).eq

pub equal_samples_answer_equally : (a b : Sample) → same_sample a b ≡ true → silent a ≡ silent b
equal_samples_answer_equally a b e = refl

-- what is written of them
abbrev pub writing : {P : Type 0} → Writing Sample P
writing = layout_writing silent
