-- What is asked by two requests of one cite each, in a style whose layout is empty, and what that
-- costs.
use Rattle.std.specs.Prelude.{ℕ, false, [], ◌∷◌, None}
use Rattle.csl_driver.specs.Answer.{Job}
use Rattle.driver_passes.specs.Request.{Request}
use Rattle.test_wrong_answers.specs.Samples.{entry, style}
use Rattle.test_wrong_answers.specs.declared.sample.Sample.{Sample}

abbrev pub one_cite : ℕ → Request Sample ℕ
one_cite n = record {
  cites = record {
    entry = entry n;
    locator = None;
    locale = None;
    hidden = false;
    purpose = None;
    apart = None;
    place = 0;
  }
      ∷ [];
  style = style;
  locale = None;
  locales = [];
  note_number = None;
}

abbrev pub sample_job : Job Sample ℕ
sample_job = record {
  wanted = record { style = style; locale = None; locales = []; order = None };
  requests = one_cite 0 ∷ one_cite 1 ∷ [];
  offset = 0;
}
