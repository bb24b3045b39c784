-- A text that ends with a closing bracket.
use Rattle.std.proofs.Common.{◌≡◌, ◌<◌, ℕ, List, [], ◌∷◌, ◌++◌, Result, Ok, Err, cond, is_ok, OnOk, ap, ◌∙◌, append_assoc}
use Rattle.std.specs.Char.{encode_utf8}
use Rattle.std.proofs.lemmas.Str.{encode_ascii}

-- after a last `push`
pub closed : {T E : Type 0} (r : Result T E) (c : ℕ) (now was whole : List ℕ) → c < 128 → now ≡ cond (is_ok r) (was ++ encode_utf8 c) was → was ++ c ∷ [] ≡ whole → OnOk r (now ≡ whole)
closed (Ok x) c now was whole small pushed is = pushed ∙ ap (λ s. was ++ s) (encode_ascii c small) ∙ is
closed (Err e) c now was whole small pushed is = tt

-- parts, one after the other
pub joined_5 : (s a b c d e : List ℕ) → ((((s ++ a) ++ b) ++ c) ++ d) ++ e ≡ s ++ (a ++ (b ++ (c ++ (d ++ e))))
joined_5 s a b c d e = simp append_assoc

pub joined_6 : (s a b c d e f : List ℕ) → (((((s ++ a) ++ b) ++ c) ++ d) ++ e) ++ f ≡ s ++ (a ++ (b ++ (c ++ (d ++ (e ++ f)))))
joined_6 s a b c d e f = simp append_assoc

pub joined_10 : (s a b c d e f g h i j : List ℕ)
    → (((((((((s ++ a) ++ b) ++ c) ++ d) ++ e) ++ f) ++ g) ++ h) ++ i) ++ j ≡ s ++ (a ++ (b ++ (c ++ (d ++ (e ++ (f ++ (g ++ (h ++ (i ++ j)))))))))
joined_10 s a b c d e f g h i j = simp append_assoc
