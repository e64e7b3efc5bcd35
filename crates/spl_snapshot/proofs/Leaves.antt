-- What a stop may leave of two disks.
use Rattle.std.proofs.Common.{◌≡◌, ℕ, List, Option, None, Some, IfSome, sym, subst}
use Rattle.spl_edge.specs.Devices.{Image, MayLeave, IsSettled}
use Rattle.spl_journal.{specs.Gate.LeavesBetween, proofs.{Images.{Safe, only_settled}, Gates.started}}
use Rattle.spl_snapshot.specs.Counting.{IfBoth, PairLeavesBetween}

both : (P Q : List ℕ → Type 0) (R : List ℕ → List ℕ → Type 0) → ((c d : List ℕ) → P c → Q d → R c d) → (o p : Option Image) → IfSome o (Safe P)
    → IfSome p (Safe Q)
    → IfBoth o p (λ i j. (c d : List ℕ) → MayLeave i c → MayLeave j d → R c d)
both P Q R f None p a b = tt
both P Q R f (Some i) None a b = tt
both P Q R f (Some i) (Some j) a b = λ c d c_left d_left. f c d (a c c_left) (b d d_left)

-- of each disk by itself
pub pair_leaves : (at other : ℕ → Option Image) (first last from to : ℕ) (P Q : List ℕ → Type 0) (R : List ℕ → List ℕ → Type 0)
    → ((c d : List ℕ) → P c → Q d → R c d)
    → LeavesBetween at first last P → LeavesBetween other from to Q → PairLeavesBetween at first last other from to R
pair_leaves at other first last from to P Q R f a b k l low high low2 high2 = both P Q R f (at k) (other l) (a k low high) (b l low2 high2)

pub leaves_two : (at : ℕ → Option Image) (first last : ℕ) (P Q : List ℕ → Type 0) → LeavesBetween at first last P → LeavesBetween at first last Q
    → LeavesBetween at first last (λ c. P c × Q c)
leaves_two at first last P Q a b k low high = two (at k) (a k low high) (b k low high)
  where
    two : (o : Option Image) → IfSome o (Safe P) → IfSome o (Safe Q) → IfSome o (Safe (λ c. P c × Q c))
    two None x y = tt
    two (Some i) x y = λ c left. (x c left, y c left)

pub leaves_map : (at : ℕ → Option Image) (first last : ℕ) (P Q : List ℕ → Type 0) → ((c : List ℕ) → P c → Q c) → LeavesBetween at first last P
    → LeavesBetween at first last Q
leaves_map at first last P Q f a k low high = one (at k) (a k low high)
  where
    one : (o : Option Image) → IfSome o (Safe P) → IfSome o (Safe Q)
    one None x = tt
    one (Some i) x = λ c left. f c (x c left)

-- a disk at rest
pub leaves_rest : (at : ℕ → Option Image) (m : ℕ) (i : Image) → at m ≡ Some i → IsSettled i → LeavesBetween at m m (λ c. c ≡ i.bytes)
leaves_rest at m i here settled =
    started at m (λ c. c ≡ i.bytes) (subst (λ (o : Option Image). IfSome o (Safe (λ c. c ≡ i.bytes))) (sym here) (λ c left. only_settled i c settled left))
