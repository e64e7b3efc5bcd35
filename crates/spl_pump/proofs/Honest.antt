-- Over an honest fabric nothing lies.
use Rattle.std.{specs.{Option.IsSome, Prelude.IfSome}, proofs.Common.{◌≡◌, ℕ, List, ◌++◌, length, take, drop, Option, Some, None, length-append, sym, ap}}
use Rattle.std.proofs.{Common.{◌∙◌, arith}, Math.Seq.{drop-append_seam, take-length}}
use Rattle.spl_edge.specs.Devices.{AreTaken, IsHonest, Streams}
use Rattle.spl_pump.specs.{Moves.IsFault, Wires.{AreTold, AreLastBytes, LiesOf, LiesOn}, declared.fault.PumpFault.{PumpFault, TheVariants.{Link, Lied}}}
use Rattle.spl_pump.specs.declared.fault.PumpFault.TheVariants.{NoMemory}

-- lists of one length end with equal lists of one length where they are equal
same_ends : (prefix prefix' sent got : List ℕ) → prefix ++ sent ≡ prefix' ++ got → length got ≡ length sent → sent ≡ got
same_ends prefix prefix' sent got same long =
    let prefixes : length prefix ≡ length prefix' = omega (arith, length-append prefix sent, length-append prefix' got, ap length same, long) in
    sym (drop-append_seam prefix sent) ∙ ap (λ (n : ℕ). drop n (prefix ++ sent)) prefixes ∙ ap (λ (l : List ℕ). drop (length prefix') l) same
    ∙ drop-append_seam prefix' got

-- on a pair where as much was taken as was put
told_alike : (sent got : List ℕ) (put taken : Option (List ℕ)) → IsSome put → IsSome taken → AreTaken put taken
    → IfSome put (λ p. IfSome taken (λ t. t ≡ take (length t) p)) → AreLastBytes sent put → AreLastBytes got taken → length got ≡ length sent → sent ≡ got
told_alike sent got None taken h k all prefix ends ends' long = absurd cc
told_alike sent got (Some p) None h k all prefix ends ends' long = absurd cc
told_alike sent got (Some p) (Some t) h k all prefix (before, is) (before', is') long =
    let whole : t ≡ p = prefix ∙ ap (λ (n : ℕ). take n p) all ∙ take-length p in
    same_ends before before' sent got (sym is ∙ sym whole ∙ is') long

told_on : (a b : ℕ) (put taken : Streams) (sent got : List ℕ) → AreTold put taken → IsHonest put taken → LiesOn a b sent got put taken → sent ≡ got
told_on a b put taken sent got told honest l =
    told_alike sent got (put a b) (taken a b) (told a b).0 (told a b).1 l.all (honest a b) l.put_last l.taken_last l.long

pub never_lies : (Due : ℕ → ℕ → List ℕ → Type 0) (put taken : Streams) (e : PumpFault) → AreTold put taken → IsHonest put taken → LiesOf Due e put taken
    → IsFault e
never_lies Due put taken Link told honest lies = tt
never_lies Due put taken NoMemory told honest lies = tt
never_lies Due put taken (Lied sent got) told honest (a, b, due, on) = on.differ (told_on a b put taken sent got told honest on)
