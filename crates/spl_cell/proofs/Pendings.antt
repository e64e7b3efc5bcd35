-- Pending values, by their entries.
use Rattle.std.{specs.{Prelude.{Option, Some, None, is_some, slice_get}, Option.option_map, List.list_any}, proofs.Common.{◌≡◌, ◌≢◌, ◌≤◌, ℕ, zero, suc, ◌+◌}}
use Rattle.std.proofs.Common.{◌<◌, Bool, false, ◌||◌, List, [], ◌∷◌, length, drop, refl, ap, add-one, arith}
use Rattle.spl_agree.specs.Member.{Member, known}
use Rattle.spl_circuit.specs.{Nodes.NodeId, Acts.act_rules, declared.{act.{Act.Act, ActKind.ActKind}, definition.Definition.Definition}}
use Rattle.spl_circuit.specs.declared.act.ActKind.TheVariants as kind
use Rattle.spl_cell_rules.specs.Cells.{next_act}
use Rattle.spl_cell.specs.Mays.{some_is}
use Rattle.spl_commit.specs.Views.{seconds}

pub length_seconds : {K X : Type 0} (es : List (K × X)) → length (seconds es) ≡ length es
length_seconds [] = refl
length_seconds (e ∷ es) = ap suc (length_seconds es)

pub get_seconds : {K X : Type 0} (es : List (K × X)) (i : ℕ) → option_map (λ e. e.1) (slice_get es i) ≡ slice_get (seconds es) i
get_seconds [] i = refl
get_seconds (e ∷ es) zero = refl
get_seconds (e ∷ es) (suc i) = get_seconds es i

any_next : {X : Type 0} (p : X → Bool) (xs : List X) (i : ℕ) → i < length xs
    → list_any p (drop i xs) ≡ (some_is p (slice_get xs i) || list_any p (drop (suc i) xs))
any_next p [] i l = absurd (omega (arith, l))
any_next p (x ∷ xs) zero l = refl
any_next p (x ∷ xs) (suc i) l = any_next p xs i (omega (arith, l))

-- one value more is looked at
pub any_step : {X : Type 0} (p : X → Bool) (xs : List X) (i : ℕ) → i < length xs
    → list_any p (drop i xs) ≡ (some_is p (slice_get xs i) || list_any p (drop (i + 1) xs))
any_step p xs i l = rw add-one (any_next p xs i l)

none_of : {A : Type 0} (o : Option A) → is_some o ≡ false → o ≡ None
none_of None h = refl
none_of (Some x) h = absurd cc

-- an act of this node may be submitted where its next one isn't known and fewer than 64 are pending
pub due_next : (d : Definition) (here : NodeId) (turn : ℕ) (a : Member Act) (k : ActKind) → length a.pending ≤ 64 → length a.pending ≢ 64
    → is_some (known (act_rules d) a (next_act here turn kind.Accept)) ≡ false
    → (known (act_rules d) a (next_act here turn k) ≡ None) × (length a.pending < 64)
due_next d here turn a k few other h = (none_of (known (act_rules d) a (next_act here turn k)) h, omega (arith, few, other))
