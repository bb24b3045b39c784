-- What a book answers; and that equal books answer alike, since equal books are one value.
use Rattle.std.specs.Prelude.{◌≡◌, true, List, [], Option, Some, None}
use Rattle.std.proofs.Common.{ap}
use Rattle.value_sources.specs.Answers.{Answers}
use Rattle.value_sources.specs.EqualEntries.{persons_find, dates_find}
use Rattle.value_sources.specs.Finds.{both, lists_find, texts_find}
use Rattle.value_sources.specs.declared.entry.Date.{Date}
use Rattle.value_sources.specs.declared.entry.Person.{Person}
use Rattle.value_sources.specs.declared.taxonomy.DateVariable.{DateVariable}
use Rattle.value_sources.specs.declared.taxonomy.NameVariable.{NameVariable}
use Rattle.first_citation.specs.contracts.book.BookPartialEq.TheImpl as book_eq
use Rattle.first_citation.specs.declared.book.Book.{Book}

-- authors alone, and the year of issue alone
abbrev pub names : Book → NameVariable → List Person
names b NameVariable.Author = b.authors
names b _ = []

abbrev pub dates : Book → DateVariable → Option Date
dates b DateVariable.Issued = Some b.issued
dates b _ = None

abbrev pub book_answers : Book → Answers
book_answers b = record {
  key = b.key;
  label = None;
  names = names b;
  date = dates b;
  text = λ v. None;
  number = λ v. None;
}

pub equal_books_answer_equally : (a b : Book) → (book_eq.ghosts).eq a b ≡ true
    → book_answers a ≡ book_answers b
equal_books_answer_equally a b e =
    let p = both _ _ e in
    let q = both _ _ p.1 in
    let same : a ≡ b = λ i. record {
      key = texts_find.equal a.key b.key p.0 i;
      authors = (lists_find persons_find).equal a.authors b.authors q.0 i;
      issued = dates_find.equal a.issued b.issued q.1 i;
    } in
    ap book_answers same
