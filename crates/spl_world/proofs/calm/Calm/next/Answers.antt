use Rattle.spl_world.specs.{Calms.{IsSquare, Tracks}, Cursor.{CalmGoesOn, CalmRests}, Views.{HoldsWorld, world_node_ids, nodes_over}, declared.calm.Calm.Calm}
use Rattle.spl_world.{specs.declared.world.World.World, proofs.Common.{◌≡◌, ◌∙◌, ℕ, List, None, Option, Some, length, refl, sym, subst, arith, Vec}}
use Rattle.spl_world.proofs.{Common.{CircuitId, Calming, CircuitWorld}, Cursor.{Passed, passed_none, passed_on, passed_same}, Slots.length_ids}
use Rattle.spl_world.proofs.calm.Calm.next.Goals as goal
use Rattle.spl_node.specs.Benches.{Images}

-- the nodes hold the same world where nothing happened
held_still : (w : World) (is : List Images) (ids : List CircuitId) (j k : Calm) (z : Calming) (r : Passed ids j k z) → k.circuit ≡ j.circuit
    → HoldsWorld j.circuit z.world (nodes_over w is) → HoldsWorld k.circuit r.last.world (nodes_over w is)
held_still w is ids j k z r same h =
    subst (λ (i : CircuitId). HoldsWorld i r.last.world (nodes_over w is)) (sym same)
    (subst (λ (m : CircuitWorld). HoldsWorld j.circuit m (nodes_over w is)) (sym r.still.world) h)

pub loop-pass-init : goal.loop-pass-init
loop-pass-init c = record {
  square = c.requires.square;
  circuit = refl;
  whole = refl;
  fewer = omega arith;
  passed = λ is z sits h f. passed_same (world_node_ids c.args.world.now) c.args.self.now c.args.self.now z refl f;
}

pub in_pass-requires : goal.in_pass-requires
in_pass-requires c = record { square = c.loop-pass.invariant.square }

pub returns-in-Some-clause-circuit : goal.returns-in-Some-clause-circuit
returns-in-Some-clause-circuit c = c.in_pass.ensures.circuit ∙ c.loop-pass.invariant.circuit

pub returns-in-Some-clause-whole : goal.returns-in-Some-clause-whole
returns-in-Some-clause-whole c = c.in_pass.ensures.whole ∙ c.loop-pass.invariant.whole

pub returns-in-Some-clause-on : goal.returns-in-Some-clause-on
returns-in-Some-clause-on c = λ is z sits h f.
    let j = c.args.self.now in
    let k = c.loop-pass.self in
    let l = c.in_pass.new.self in
    let ids = world_node_ids c.args.world.now in
    let r = c.loop-pass.invariant.passed is z sits h f in
    passed_on ids j k l z (Some c.in-Some.turn) c.loop-pass.invariant.circuit r
    (subst (λ t. CalmGoesOn t ids k l r.last) c.in-Some.is (c.in_pass.ensures.on is r.last sits (held_still c.args.world.now is ids j k z r c.loop-pass.invariant.circuit h) r.follows))

pub returns-then-not-goes_on-clause-circuit : goal.returns-then-not-goes_on-clause-circuit
returns-then-not-goes_on-clause-circuit c = c.goes_on.ensures.circuit ∙ c.in_pass.ensures.circuit ∙ c.loop-pass.invariant.circuit

pub returns-then-not-goes_on-clause-whole : goal.returns-then-not-goes_on-clause-whole
returns-then-not-goes_on-clause-whole c = c.goes_on.ensures.whole ∙ c.in_pass.ensures.whole ∙ c.loop-pass.invariant.whole

pub returns-then-not-goes_on-clause-on : goal.returns-then-not-goes_on-clause-on
returns-then-not-goes_on-clause-on c = λ is z sits h f.
    let j = c.args.self.now in
    let k = c.loop-pass.self in
    let l = c.in_pass.new.self in
    let ids = world_node_ids c.args.world.now in
    let r = c.loop-pass.invariant.passed is z sits h f in
    let rest : CalmRests ids k l r.last = subst (λ t. CalmGoesOn t ids k l r.last) c.in_default.is (c.in_pass.ensures.on is r.last sits (held_still c.args.world.now is ids j k z r c.loop-pass.invariant.circuit h) r.follows) in
    subst (λ (m : Calm). CalmRests ids j m z) (sym (c.goes_on.ensures.stays c.if-not-goes_on.true)) (passed_none ids j k l z r rest)

pub loop-pass-preserved : goal.loop-pass-preserved
loop-pass-preserved c = record {
  square = subst (λ (v : Vec (Vec ℕ)). IsSquare (length c.args.world.now.slots.items) v.items) (sym c.goes_on.ensures.rows) c.in_pass.ensures.square;
  circuit = c.goes_on.ensures.circuit ∙ c.in_pass.ensures.circuit ∙ c.loop-pass.invariant.circuit;
  whole = c.goes_on.ensures.whole ∙ c.in_pass.ensures.whole ∙ c.loop-pass.invariant.whole;
  fewer =
      omega (arith, c.goes_on.ensures.fewer c.if-not-goes_on.false, c.in_pass.ensures.later, c.loop-pass.invariant.fewer);
  passed = λ is z sits h f.
      let j = c.args.self.now in
      let k = c.loop-pass.self in
      let l = c.in_pass.new.self in
      let ids = world_node_ids c.args.world.now in
      let r = c.loop-pass.invariant.passed is z sits h f in
      let rest : CalmRests ids k l r.last = subst (λ t. CalmGoesOn t ids k l r.last) c.in_default.is (c.in_pass.ensures.on is r.last sits (held_still c.args.world.now is ids j k z r c.loop-pass.invariant.circuit h) r.follows) in
      let whole : CalmRests ids j l z = passed_none ids j k l z r rest in
      record {
        last = whole.last;
        still = whole.still;
        same = c.goes_on.ensures.first (length c.args.world.now.slots.items) ids whole.last c.if-not-goes_on.false
            (length_ids c.args.world.now.slots.items) (c.in_pass.ensures.over c.in_default.is) ∙ whole.same;
        follows = record {
          tracks = subst (λ (v : Vec (Vec ℕ)). Tracks whole.last ids v.items) (sym c.goes_on.ensures.rows) whole.tracks;
          idle = λ off. c.goes_on.ensures.idle ids whole.last c.if-not-goes_on.false;
          left = λ a left at asked. absurd (let none : ◌≡◌ {A = Option ℕ} None (Some left) = sym (c.goes_on.ensures.unasked c.if-not-goes_on.false) ∙ asked in cc);
        };
      };
}

pub returns-clause-square : goal.returns-clause-square
returns-clause-square c = c.loop-pass.invariant.square

pub returns-clause-circuit : goal.returns-clause-circuit
returns-clause-circuit c = c.loop-pass.invariant.circuit

pub returns-clause-whole : goal.returns-clause-whole
returns-clause-whole c = c.loop-pass.invariant.whole

pub returns-clause-over : goal.returns-clause-over
returns-clause-over c = let fewer = c.loop-pass.invariant.fewer in let done = c.loop-pass-test.false in absurd (omega (arith, fewer, done))

pub returns-clause-on : goal.returns-clause-on
returns-clause-on c = λ is z sits h f. let fewer = c.loop-pass.invariant.fewer in let done = c.loop-pass-test.false in absurd (omega (arith, fewer, done))
