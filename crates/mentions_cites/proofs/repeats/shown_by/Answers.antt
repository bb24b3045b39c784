use Rattle.std.proofs.Common.{◌≡◌, ◌+◌, ap, cond, length, min, None, option_map, sym, unwrap_or, ◌∙◌}
use Rattle.mentions_cites.specs.Mentions.{first_with_names, kept_last, mention_of}
use Rattle.mentions_cites.specs.Repeats.{reads_alike}
use Rattle.mentions_cites.proofs.Repeating.{lasts-length}
use Rattle.mentions_cites.proofs.repeats.shown_by.Goals as goal
use Rattle.mentions_cites.proofs.repeats.shown_by.Goals.{then-reads_alike, else-reads_alike}

pub returns : goal.returns
returns c =
    let known = c.args.known in
    let told = known.told.now in
    let lasts = kept_last told.firsts.items told.again.items in
    let place = c.args.place in
    let r = c.args.repeated in
    let kept = c.args.kept.now in
    let shown = (mention_of known.mentions.now r.entry r.is_first).shown.text in
    let count : c.min.result ≡ length lasts = c.min.ensures ∙ (λ i. min (c.len.ensures i) (c.len-2.ensures i)) ∙ (λ i. min (told.firsts.ok.0 i) (told.again.ok.0 i)) ∙ sym (lasts-length told.firsts.items told.again.items) in
    let names : c.names_by.result ≡ option_map (λ n. unwrap_or (first_with_names lasts n) (length lasts + place)) kept.names =
    c.names_by.ensures ∙ (λ i. option_map (λ n. unwrap_or (c.requires.noted n i) (count i + place)) kept.names) in
    let text : c.if-reads_alike.text ≡ cond (reads_alike lasts r kept) shown None =
    elim c.if-reads_alike.branch [
      | then-reads_alike w ↦ w.text-is ∙ ap (λ m. m.shown.text) w.mention_of.ensures ∙ ap (λ b. cond b shown None) (sym w.if-reads_alike.true ∙ c.reads_alike.ensures)
      | else-reads_alike w ↦ w.text-is ∙ ap (λ b. cond b shown None) (sym w.if-reads_alike.false ∙ c.reads_alike.ensures)
    ] in
    λ i. record { names = names i; text = text i; has_number = kept.shows_number; has_date = kept.shows_date }
