-- What is read of a text and of another behind it.
use Rattle.std.proofs.Common.{◌≡◌, ℕ, Bool, true, false, List, [], ◌∷◌, ◌++◌, refl, sym, ap, ◌∙◌, append_assoc}
use Rattle.std.specs.Prelude.{Option, Some, None, option_and_then, bytes_eq, if◌then◌else◌}
use Rattle.std.specs.List.{list_any}
use Rattle.write_html.specs.Nesting.{Leads, behind_tag, opened, references}
use Rattle.write_html.specs.Reading.{Token, Letter, Reference, Tag, Where, InText, behind, ended, tokens, where_after}

pub where_after-append : (w : Where) (xs ys : List ℕ) → where_after w (xs ++ ys) ≡ where_after (where_after w xs) ys
where_after-append w [] ys = refl
where_after-append w (x ∷ xs) ys = where_after-append (behind w x) xs ys

pub tokens-append : (w : Where) (xs ys : List ℕ) → tokens w (xs ++ ys) ≡ tokens w xs ++ tokens (where_after w xs) ys
tokens-append w [] ys = refl
tokens-append w (x ∷ xs) ys =
    ap (λ ts. ended w x ++ ts) (tokens-append (behind w x) xs ys)
    ∙ sym (append_assoc (ended w x) (tokens (behind w x) xs) (tokens (where_after (behind w x) xs) ys))

if_then : (b : Bool) (p q : Option (List (List ℕ))) (f : List (List ℕ) → Option (List (List ℕ))) → p ≡ option_and_then f q → (if b then p else None) ≡ option_and_then f (if b then q else None)
if_then true p q f e = e
if_then false p q f e = refl

and_then : (o : Option (List (List ℕ))) (f g h : List (List ℕ) → Option (List (List ℕ))) → ((x : List (List ℕ)) → f x ≡ option_and_then h (g x)) → option_and_then f o ≡ option_and_then h (option_and_then g o)
and_then None f g h e = refl
and_then (Some x) f g h e = e x

pub opened-append : (elements : List (List ℕ)) (xs ys : List Token) → opened elements (xs ++ ys) ≡ option_and_then (λ inside. opened inside ys) (opened elements xs)
opened-append elements [] ys = refl
opened-append elements (Letter b ∷ xs) ys = opened-append elements xs ys
opened-append elements (Reference r ∷ xs) ys =
    if_then (list_any (bytes_eq r) references) _ _ _ (opened-append elements xs ys)
opened-append elements (Tag t ∷ xs) ys =
    and_then (behind_tag elements t) _ _ _ (λ inside. opened-append inside xs ys)

pub Leads-append : (xs ys : List ℕ) (before between after : List (List ℕ)) → Leads xs before between → Leads ys between after → Leads (xs ++ ys) before after
Leads-append xs ys before between after first second = record {
  ends = where_after-append InText xs ys ∙ (ap (λ w. where_after w ys) first.ends ∙ second.ends);
  nests = ap (opened before) (tokens-append InText xs ys)
      ∙ (opened-append before (tokens InText xs) (tokens (where_after InText xs) ys)
      ∙ (ap (option_and_then (λ inside. opened inside (tokens (where_after InText xs) ys))) first.nests
      ∙ (ap (λ w. opened between (tokens w ys)) first.ends ∙ second.nests)));
}
