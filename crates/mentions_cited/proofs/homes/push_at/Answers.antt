use Rattle.std.proofs.Common.{◌++◌, [], ◌∷◌, ap, append-nil, length, refl, sym, ◌∙◌}
use Rattle.std.proofs.lemmas.Bool.Decides.{Decides-ltb}
use Rattle.std.proofs.lemmas.List.{map-append}
use Rattle.std.proofs.lemmas.Option.{slice_get_read}
use Rattle.mentions_cited.specs.HomeView.{home_view, homes_view}
use Rattle.mentions_cited.proofs.Picking.{picked-none, picked-one}
use Rattle.mentions_cited.proofs.homes.push_at.Goals as goal

pub returns-in_ok-push : goal.returns-in_ok-push
returns-in_ok-push g c =
    let old = c.args.homes.now.items in
    let firsts = c.args.firsts.now in
    let home = c.in-Some.home.now in
    let found = c.in-Some.ensures.lookup in
    let there = slice_get_read firsts (length firsts) c.args.place home refl ((Decides-ltb _ _).0 (sym found.0)) found.1 in
    ap homes_view c.in_ok-push.ensures.items ∙ map-append home_view old (home ∷ [])
    ∙ ap (λ l. homes_view old ++ l) (sym (picked-one home_view firsts c.args.place home there))

pub returns-in_default : goal.returns-in_default
returns-in_default g c =
    let old = homes_view c.args.homes.now.items in
    let found = c.in_default.ensures.lookup in
    sym (append-nil old) ∙ ap (λ l. old ++ l) (sym (picked-none home_view c.args.firsts.now c.args.place (sym found.0)))
