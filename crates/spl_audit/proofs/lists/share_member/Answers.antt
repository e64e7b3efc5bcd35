use Rattle.std.proofs.Common.{◌≡◌, ◌∙◌, ◌<◌, true, List, length, refl, sym, subst, arith, below_more}
use Rattle.spl_circuit.specs.Nodes.{NodeId, has_node}
use Rattle.spl_audit.{specs.Clashes.ShareMember, proofs.Beside.{has_at, lacks_at, none_shared}}
use Rattle.spl_audit.proofs.lists.share_member.Goals as goal

pub returns-then-is_member : goal.returns-then-is_member
returns-then-is_member c =
    let items = c.as_slice-member-items.result.now in
    let n = c.member-item.result in
    let below : c.members.member-index < length items = omega (arith, c.members-test.true) in (
      (λ e. record {
        node = n;
        first = subst (λ (ns : List NodeId). has_node ns n ≡ true) c.as_slice-member-items.ensures
            (has_at items c.members.member-index n below c.member-item.is);
        second = sym c.is_member.ensures ∙ c.if-is_member.true;
      }),
      (λ s. refl),
    )

pub members-preserved : goal.members-preserved
members-preserved c =
    let items = c.as_slice-member-items.result.now in
    let n = c.member-item.result in
    let below : c.members.member-index < length items = omega (arith, c.members-test.true) in
    below_more _ _ c.members.invariant
    (lacks_at items c.args.other.now.members c.members.member-index n below c.member-item.is
    (sym c.is_member.ensures ∙ c.if-is_member.false))

pub returns : goal.returns
returns c = (
  (λ e. absurd cc),
  (λ (s : ShareMember c.args.one.now c.args.other.now). absurd
      (none_shared c.as_slice-member-items.result.now c.args.other.now.members s.node
      (λ k h. c.members.invariant k (omega (arith, h, c.members-test.false)))
      (subst (λ (ns : List NodeId). has_node ns s.node ≡ true) (sym c.as_slice-member-items.ensures) s.first) s.second)),
)
