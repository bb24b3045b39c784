use Rattle.std.proofs.Common.{◌≡◌, ◌∙◌, Some, None, ap, arith, subst, sym}
use Rattle.std.specs.Prelude.{option_copied, string_bytes}
use Rattle.cite_kept.specs.Known.{AreKnown, version_of}
use Rattle.cite_kept.proofs.versions.Versions.version.Goals as goal

pub returns-in-Some-clause-given : goal.returns-in-Some-clause-given
returns-in-Some-clause-given c =
    let known : AreKnown c.args.self.now = subst AreKnown c.self.view_is c.self.invariant in
    let found : version_of c.args.self.now (string_bytes c.args.id.now) ≡ Some c.in-Some.number.now =
    sym (ap (λ k. version_of k (string_bytes c.args.id.now)) c.self.view_is)
    ∙ ap (λ bs. version_of (record { entries = c.self.inside.numbers.entries; given = c.self.inside.given }) bs) (sym c.as_str.ensures.value)
    ∙ sym c.get.ensures.value ∙ ap option_copied c.in-Some.is in
    known.below _ _ found

pub returns-in-Some-clause-own : goal.returns-in-Some-clause-own
returns-in-Some-clause-own c = λ other is.
    let known : AreKnown c.args.self.now = subst AreKnown c.self.view_is c.self.invariant in
    let found : version_of c.args.self.now (string_bytes c.args.id.now) ≡ Some c.in-Some.number.now =
    sym (ap (λ k. version_of k (string_bytes c.args.id.now)) c.self.view_is)
    ∙ ap (λ bs. version_of (record { entries = c.self.inside.numbers.entries; given = c.self.inside.given }) bs) (sym c.as_str.ensures.value)
    ∙ sym c.get.ensures.value ∙ ap option_copied c.in-Some.is in
    known.apart other (string_bytes c.args.id.now) c.in-Some.number.now is found

pub returns-in-None-clause-same : goal.returns-in-None-clause-same
returns-in-None-clause-same c = λ some.
    let found : version_of c.args.self.now (string_bytes c.args.id.now) ≡ None =
    sym (ap (λ k. version_of k (string_bytes c.args.id.now)) c.self.view_is)
    ∙ ap (λ bs. version_of (record { entries = c.self.inside.numbers.entries; given = c.self.inside.given }) bs) (sym c.as_str.ensures.value)
    ∙ sym c.get.ensures.value ∙ ap option_copied c.in-None.is in
    grind (arith, found, some)
