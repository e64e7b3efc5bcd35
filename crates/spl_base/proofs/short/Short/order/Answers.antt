use Rattle.std.{specs.Prelude.slice_index, proofs.Common.{◌≡◌, ℕ, ◌-◌, ◌≤◌, List, length, Fits, w8, sym, ap, subst, ◌∙◌, nat_cmp, rules, arith}}
use Rattle.spl_base.proofs.Heads.{SamePrefix, same_prefix, by_heads, by_cells, same_cells, order_within}
use Rattle.spl_base.proofs.short.Short.order.Goals as goal

pub returns-then-first-second : goal.returns-then-first-second
returns-then-first-second g c =
    let xs : List ℕ = c.args.self.now in
    let ys : List ℕ = c.args.other.now in
    let these : (k : ℕ) → Fits w8 (slice_index xs k) = λ k. subst (λ (l : List ℕ). Fits w8 (slice_index l k)) c.bytes-these.ensures.value (search rules) in
    let those : (k : ℕ) → Fits w8 (slice_index ys k) = λ k. subst (λ (l : List ℕ). Fits w8 (slice_index l k)) c.bytes-those.ensures.value (search rules) in
    c.cmp.ensures
    ∙ by_heads c.head-first.result c.head-second.result xs ys these those c.head-first.ensures c.head-second.ensures c.if-first-second.true

pub returns-then-third-fourth : goal.returns-then-third-fourth
returns-then-third-fourth g c =
    let xs : List ℕ = c.args.self.now in
    let ys : List ℕ = c.args.other.now in
    let these : (k : ℕ) → Fits w8 (slice_index xs k) = λ k. subst (λ (l : List ℕ). Fits w8 (slice_index l k)) c.bytes-these.ensures.value (search rules) in
    let those : (k : ℕ) → Fits w8 (slice_index ys k) = λ k. subst (λ (l : List ℕ). Fits w8 (slice_index l k)) c.bytes-those.ensures.value (search rules) in
    let heads = same_prefix xs ys these those (sym c.head-first.ensures ∙ c.if-first-second.false ∙ c.head-second.ensures) in
    let all = same_cells g.row.CAP xs ys these those c.requires (omega (arith, c.if-this-gt16.false)) heads
    (sym c.last-third.ensures ∙ c.if-third-fourth.true ∙ c.last-fourth.ensures) in
    let short : length xs ≤ g.row.CAP = c.bytes-these.ensures.len in
    let one : length xs ≡ c.self.inside.len = sym (ap length c.self.view_is) ∙ c.self.invariant.1 in
    let two : length ys ≡ c.other.inside.len = sym (ap length c.other.view_is) ∙ c.other.invariant.1 in
    c.cmp-then-third-fourth.ensures
    ∙ (λ i. nat_cmp (sym one i) (sym two i))
    ∙ order_within g.row.CAP xs ys all (grind (arith, short))

pub returns-else-third-fourth : goal.returns-else-third-fourth
returns-else-third-fourth g c =
    let xs : List ℕ = c.args.self.now in
    let ys : List ℕ = c.args.other.now in
    let these : (k : ℕ) → Fits w8 (slice_index xs k) = λ k. subst (λ (l : List ℕ). Fits w8 (slice_index l k)) c.bytes-these.ensures.value (search rules) in
    let those : (k : ℕ) → Fits w8 (slice_index ys k) = λ k. subst (λ (l : List ℕ). Fits w8 (slice_index l k)) c.bytes-those.ensures.value (search rules) in
    let heads = same_prefix xs ys these those (sym c.head-first.ensures ∙ c.if-first-second.false ∙ c.head-second.ensures) in
    let prefix : SamePrefix (g.row.CAP - 8) xs ys = λ i l. heads i (omega (arith, c.if-this-gt16.false, l)) in
    c.cmp-else-third-fourth.ensures
    ∙ by_cells (g.row.CAP - 8) c.last-third.result c.last-fourth.result xs ys these those prefix c.last-third.ensures c.last-fourth.ensures
    c.if-third-fourth.false
