use Rattle.std.proofs.Common.{◌≡◌, ℕ, List, ◌++◌, drop, length, map}
use Rattle.std.specs.Str.{chars}
use Rattle.write_html.specs.Page.{with_characters}
use Rattle.write_html.specs.Shown.{base}
use Rattle.write_html.proofs.html.Page.push_text.Given as goal

-- what is written, and the characters left, are the whole
abbrev pub invariant-loop-c : goal.invariant-loop-c
invariant-loop-c l = record {
  text : (more : List ℕ) → with_characters l.self (map base (drop (length l.yielded) (chars l.text)) ++ more) ≡ with_characters l.initial.self (map base (chars l.text) ++ more);
  marks : l.self.marks ≡ l.initial.self.marks;
  wraps : l.self.wraps ≡ l.initial.self.wraps;
}
