-- Answers in which each entry is a letter, and what they are asked.
use Rattle.std.specs.Prelude.{◌≡◌, ℕ, ◌+◌, false, List, [], ◌∷◌, None, Some, length, map}
use Rattle.std.specs.List.{range_with_len}
use Rattle.driver_assembly.specs.declared.rendered.Rendered.{Rendered}
use Rattle.driver_assembly.specs.declared.rendered.RenderedCitation.{RenderedCitation}
use Rattle.value_trees.specs.Child.{Child, elem, kid, no_kids}
use Rattle.value_trees.specs.declared.elem.ElemMeta.{ElemMeta}
use Rattle.csl_driver.specs.Answer.{Job}
use Rattle.csl_driver.specs.declared.account.Account.{Account}
use Rattle.driver_lookup.specs.declared.state.DisambiguateState.{DisambiguateState}
use Rattle.driver_lookup.specs.declared.state.IdentifierUsage.{IdentifierUsage}
use Rattle.driver_passes.specs.Request.{Request, RequestedCite}
use Rattle.driver_writers.specs.Writing.{Writing}
use Rattle.test_wrong_answers.specs.Samples.{entry, numbered_element, style, words}
use Rattle.test_wrong_answers.specs.Silent.{silent}
use Rattle.test_wrong_answers.specs.declared.sample.Sample.{Sample}

-- the letter of an entry: A, B, C and so on
abbrev pub letter : Sample → List ℕ
letter e = (65 + e.number) ∷ []

-- a cite and an item are the letter of their entry, and that is its key
abbrev pub letters : Writing Sample ℕ
letters = record {
  answers = λ e. record (silent e) { key = letter e };
  cite = λ t. record {
    children = numbered_element (letter t.entry) ∷ [];
    checked_disambiguate = false;
    first_name = None;
    identifier_usage = IdentifierUsage.None;
  };
  item = λ t. Some (words (letter t.entry) ∷ []);
  date = λ t. [];
}

-- a cite of an entry
abbrev pub asked_cite : ℕ → RequestedCite Sample ℕ
asked_cite n =
    record {
      entry = entry n;
      locator = None;
      locale = None;
      hidden = false;
      purpose = None;
      apart = None;
      place = 0;
    }

abbrev pub request : List (RequestedCite Sample ℕ) → Request Sample ℕ
request cites = record {
  cites = cites;
  style = style;
  locale = None;
  locales = [];
  note_number = None;
}

-- these requests, and no bibliography
abbrev pub job : List (Request Sample ℕ) → Job Sample ℕ
job requests = record {
  wanted = record { style = style; locale = None; locales = []; order = None };
  requests = requests;
  offset = 0;
}

-- the cite at a place of its request, as it shows the letter of an entry
abbrev pub shows : ℕ → ℕ → Child
shows place n = elem (kid (numbered_element (letter (entry n))) no_kids) None
    (Some (ElemMeta.Entry place))

-- a citation in which this is shown, and an answer of these citations
abbrev pub citation : List Child → RenderedCitation
citation tree = record { note_number = None; citation = tree }

abbrev pub answer : List RenderedCitation → Rendered
answer citations = record { bibliography = None; citations = citations }

-- an account of so many renderings and no rounds, with these entries, which nothing disambiguates,
-- and the numbers from 0 on
pub record IsPlainAccount (renders : ℕ) (entries : List Sample)
    (account : Account Sample) : Type 0 where
  pub made : account.renders ≡ renders
  pub no_round : account.rounds ≡ 0
  pub of : map (λ e. e.now) account.entries.items ≡ entries
  pub plain : account.states.items ≡ map (λ e. DisambiguateState.None) entries
  pub counted : account.numbers.items ≡ range_with_len 0 (length entries)
