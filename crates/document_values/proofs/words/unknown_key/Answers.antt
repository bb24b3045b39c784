-- The keys that the loop begins with are those of the object.
use Rattle.std.proofs.Common.{◌≡◌, true, map, ap, sym, ◌∙◌, subst}
use Rattle.std.specs.List.{list_all}
use Rattle.document_values.specs.Words.{is_one_of}
use Rattle.document_values.proofs.Keys.{keys_from}
use Rattle.document_values.proofs.words.unknown_key.Goals as goal

pub loop-key-init : goal.loop-key-init
loop-key-init c =
    let r = c.keys-key-items.ensures.rest in
    let i = c.into_iter-key-iterator.ensures.into_iter_gives in
    let same = keys_from c.args.members.now.entries c.into_iter-key-iterator.result (i ∙ r) in
    record {
      decided = ap (list_all (is_one_of (map (λ k. k.now) c.args.keys.now))) same;
      within = λ k h. subst (λ keys. is_one_of keys k ≡ true) (sym same) h;
    }
