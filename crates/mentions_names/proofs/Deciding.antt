-- The tests of equality on looks and steps decide equality.
use Rattle.std.specs.Prelude.{◌≡◌, true, refl}
use Rattle.std.specs.Cmp.{unsigned_Decides}
use Rattle.std.proofs.Common.{ap, sym, true≢false}
use Rattle.value_sources.specs.Finds.{Finds, both, and-true, texts_find, options_find}
use Rattle.mentions_names.specs.Gathered.{same_node}
use Rattle.mentions_names.specs.Looks.{same_look}
use Rattle.mentions_names.specs.Rivals.{same_name}
use Rattle.mentions_names.specs.Ways.{same_step}
use Rattle.mentions_names.specs.contracts.look.GivenShownPartialEq.TheImpl as given_eq
use Rattle.mentions_names.specs.declared.look.GivenShown.{GivenShown}
use Rattle.mentions_names.specs.declared.rivals.Node.{Node}

given_find : Finds (given_eq.ghosts).eq
given_find = record { equal = equal; self = self }
  where
    equal : (a b : GivenShown) → (given_eq.ghosts).eq a b ≡ true → a ≡ b
    equal GivenShown.Nothing GivenShown.Nothing e = refl
    equal (GivenShown.Initials s) (GivenShown.Initials t) e = ap GivenShown.Initials (texts_find.equal s t e)
    equal (GivenShown.Full s) (GivenShown.Full t) e = ap GivenShown.Full (texts_find.equal s t e)
    equal _ _ e = absurd (true≢false (sym e))

    self : (a : GivenShown) → (given_eq.ghosts).eq a a ≡ true
    self GivenShown.Nothing = refl
    self (GivenShown.Initials s) = texts_find.self s
    self (GivenShown.Full s) = texts_find.self s

pub looks_find : Finds same_look
looks_find = record {
  equal = λ a b e. let p = both _ _ e in
      λ i. record { name = texts_find.equal a.name b.name p.0 i; given = given_find.equal a.given b.given p.1 i };
  self = λ a. and-true _ _ (texts_find.self a.name) (given_find.self a.given);
}

pub nodes_find : Finds same_node
nodes_find = record { equal = equal; self = self }
  where
    equal : (a b : Node) → same_node a b ≡ true → a ≡ b
    equal (Node.Start m) (Node.Start n) e = ap Node.Start ((unsigned_Decides m n).0 e)
    equal (Node.Step m) (Node.Step n) e = ap Node.Step ((unsigned_Decides m n).0 e)
    equal _ _ e = absurd (true≢false (sym e))

    self : (a : Node) → same_node a a ≡ true
    self (Node.Start m) = (unsigned_Decides m m).1 refl
    self (Node.Step m) = (unsigned_Decides m m).1 refl

pub names_find : Finds same_name
names_find = record {
  equal = λ a b e. let p = both _ _ e in let q = both _ _ p.1 in
      λ i. record {
        node = nodes_find.equal a.node b.node p.0 i;
        name = (options_find texts_find).equal a.name b.name q.0 i;
        initials = (options_find texts_find).equal a.initials b.initials q.1 i;
      };
  self = λ a.
      and-true _ _ (nodes_find.self a.node)
      (and-true _ _ ((options_find texts_find).self a.name) ((options_find texts_find).self a.initials));
}

pub steps_find : Finds same_step
steps_find = record {
  equal = λ a b e. let p = both _ _ e in
      λ i. record { from = nodes_find.equal a.from b.from p.0 i; look = looks_find.equal a.look b.look p.1 i };
  self = λ a. and-true _ _ (nodes_find.self a.from) (looks_find.self a.look);
}
