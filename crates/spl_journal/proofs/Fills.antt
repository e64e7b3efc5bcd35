-- What a journal written whole leaves.
use Rattle.std.{specs.Option.option_map, proofs.Common.{◌≡◌, ◌≢◌, inl, inr, ⊎_elim, ℕ, zero, suc, ◌+◌, ◌<◌, ◌^◌, List, [], ◌∷◌, ◌++◌, length, get_or, take}}
use Rattle.std.proofs.Common.{drop, Bool, true, false, ◌==◌, if◌then◌else◌, is_none, Option, None, Some, IfSome, Ok, refl, sym, ◌∙◌, ap, subst, arith}
use Rattle.std.proofs.{Common.{append_assoc, length-append}, lemmas.{List.{append-nil, take_more, take_at, drop_all, get_or_at, get_or-take}, Bool.cases_eq}}
use Rattle.std.proofs.lemmas.Bool.Decides.{nat_tests}
use Rattle.spl_edge.specs.Devices.{Image, MayLeave, settled_at}
use Rattle.spl_journal.specs.{Clear.IsCleared, Gate.{IsReady, IsUpToGate, IsAfterGate, after, opened, LeavesBetween}, Records.{magic, epoch_bytes, epoch_in}}
use Rattle.spl_journal.specs.Records.{closed_prefix, block, blocks, filling, is_headed, head_fault, is_open, form_in, records, IsGood, AreGood, AreRecords}
use Rattle.spl_journal.{specs.{Records.{IsPrefix, Holds, Standing, IsClosedOrFilled}, declared.journal_form.TheConstants.WRITTEN}, proofs.Forms.longest_of}
use Rattle.spl_journal.proofs.{Forms.{made_form, written_goes_on}, Sizes.{length-epoch_bytes, length-closed_prefix, epoch_is}, Images.{Safe, only_settled}}
use Rattle.spl_journal.proofs.{Gates.started, Walks.{closed, prefix_same, blocks-push}, Pieces.{lift1, prefix_first}, Readings.holds_own, Appends.after_is}
use Rattle.spl_journal.proofs.Appends.{leaves_map}

-- a head whose gate isn't open
pub shut_head : (c : List ℕ) → get_or c 16 0 ≢ 1 → is_open c ≡ false
shut_head c shut =
    ap (λ (b : Bool). is_none {T = ℕ} (if is_headed c then (if b then None else Some 16) else Some 0)) (no (get_or c 16 0) shut) ∙ either (is_headed c)
  where
    no : (n : ℕ) → n ≢ 1 → (n == 1) ≡ false
    no n other = grind (arith, nat_tests)

    either : (b : Bool) → is_none {T = ℕ} (if b then Some 16 else Some 0) ≡ false
    either true = refl
    either false = refl

-- the bytes of a whole journal
abbrev pub whole_bytes : ℕ → ℕ → List (List ℕ) → List ℕ
whole_bytes epoch byte rs = (magic ++ epoch_bytes epoch) ++ byte ∷ filling rs

size : (epoch : ℕ) → length (magic ++ epoch_bytes epoch) ≡ 16
size epoch = omega (arith, length-append magic (epoch_bytes epoch), length-epoch_bytes epoch)

pub length-filling : (rs : List (List ℕ)) → length (filling rs) ≡ length (blocks rs) + 1
length-filling rs = length-append (blocks rs) (0 ∷ [])

whole_is : (epoch byte : ℕ) (rs : List (List ℕ)) → after 16 (filling rs) (closed_prefix epoch) byte ≡ whole_bytes epoch byte rs
whole_is epoch byte rs =
    let head = closed_prefix epoch in
    let long = length-closed_prefix epoch in
    after_is 16 (filling rs) head byte (omega (arith, long))
    ∙ ap (λ (l : List ℕ). l ++ byte ∷ (filling rs ++ drop (16 + 1 + length (filling rs)) head)) (take_at (magic ++ epoch_bytes epoch) (0 ∷ []) 16 (size epoch))
    ∙ ap (λ (l : List ℕ). (magic ++ epoch_bytes epoch) ++ byte ∷ l)
    (ap (λ (l : List ℕ). filling rs ++ l) (drop_all (16 + 1 + length (filling rs)) head (omega (arith, long))) ∙ append-nil (filling rs))

-- each record is good, and one more block
pub good_at : (fits : List ℕ → Bool) (rs : List (List ℕ)) (i : ℕ) (d : List ℕ) → AreGood fits rs → i < length rs → IsGood fits (get_or rs i d)
good_at fits [] i d good lt = absurd (omega (arith, lt))
good_at fits (r ∷ rs) zero d good lt = good.0
good_at fits (r ∷ rs) (suc i) d good lt = good_at fits rs i d good.1 (omega (arith, lt))

pub block_more : (rs : List (List ℕ)) (i : ℕ) (r : List ℕ) → i < length rs → r ≡ get_or rs i r → blocks (take i rs) ++ block r ≡ blocks (take (i + 1) rs)
block_more rs i r lt is = sym (ap blocks (take_more rs i r lt ∙ ap (λ (x : List ℕ). take i rs ++ x ∷ []) (sym is)) ∙ blocks-push (take i rs) r)

whole_form : (epoch byte : ℕ) (rs : List (List ℕ)) → form_in (whole_bytes epoch byte rs) ≡ Some WRITTEN
whole_form epoch byte rs = ap form_in (append_assoc magic (epoch_bytes epoch) (byte ∷ filling rs)) ∙ made_form (epoch_bytes epoch ++ byte ∷ filling rs)

-- with the head gate open
headed : (e : ℕ) → head_fault ((magic ++ epoch_bytes e) ++ 1 ∷ 0 ∷ []) ≡ None
unfolding epoch_bytes
headed e = refl

-- all up to the gate, or the whole journal by the byte in its gate
pub shut_up : (epoch : ℕ) (d : List ℕ) → take 17 d ≡ take 17 (closed_prefix epoch) → is_open d ≡ false
shut_up epoch d up = shut_head d (λ one.
    let nought : get_or (closed_prefix epoch) 16 0 ≡ 0 = get_or_at (magic ++ epoch_bytes epoch) 0 [] 0 16 (size epoch) in
    let same : get_or d 16 0 ≡ get_or (closed_prefix epoch) 16 0 =
    sym (get_or-take 17 d 16 0 (omega arith)) ∙ ap (λ (l : List ℕ). get_or l 16 0) up ∙ get_or-take 17 (closed_prefix epoch) 16 0 (omega arith) in
    omega (arith, one, same, nought))

pub shut_by : (epoch byte : ℕ) (rs : List (List ℕ)) → byte ≢ 1 → is_open (after 16 (filling rs) (closed_prefix epoch) byte) ≡ false
shut_by epoch byte rs other = shut_head (after 16 (filling rs) (closed_prefix epoch) byte) (λ one.
    let same : get_or (after 16 (filling rs) (closed_prefix epoch) byte) 16 0 ≡ byte =
    ap (λ (l : List ℕ). get_or l 16 0) (whole_is epoch byte rs) ∙ get_or_at (magic ++ epoch_bytes epoch) byte (filling rs) 0 16 (size epoch) in
    other (sym same ∙ one))

module _ (fits : List ℕ → Bool) (epoch : ℕ) (rs : List (List ℕ)) (good : AreGood fits rs) where
  f : List ℕ
  f = magic ++ epoch_bytes epoch

  c : List ℕ
  c = whole_bytes epoch 1 rs

  parts : whole_bytes epoch 1 rs ≡ ((magic ++ epoch_bytes epoch) ++ 1 ∷ []) ++ (blocks rs ++ 0 ∷ [])
  parts = sym (append_assoc (magic ++ epoch_bytes epoch) (1 ∷ []) (blocks rs ++ 0 ∷ []))

  prefix_size : length ((magic ++ epoch_bytes epoch) ++ 1 ∷ []) ≡ 17
  prefix_size = omega (arith, length-append (magic ++ epoch_bytes epoch) (1 ∷ []), size epoch)

  pub long : length (whole_bytes epoch 1 rs) ≡ 18 + length (blocks rs)
  long = omega (arith, length-append (magic ++ epoch_bytes epoch) (1 ∷ filling rs), size epoch, length-filling rs)

  prefix_is : take 17 (whole_bytes epoch 1 rs) ≡ (magic ++ epoch_bytes epoch) ++ 1 ∷ []
  prefix_is = ap (take 17) parts ∙ take_at ((magic ++ epoch_bytes epoch) ++ 1 ∷ []) (blocks rs ++ 0 ∷ []) 17 prefix_size

  opened_head : head_fault (whole_bytes epoch 1 rs) ≡ None
  opened_head =
      let small = (magic ++ epoch_bytes epoch) ++ 1 ∷ 0 ∷ [] in
      let small_prefix : take 17 small ≡ (magic ++ epoch_bytes epoch) ++ 1 ∷ [] =
      ap (take 17) (sym (append_assoc (magic ++ epoch_bytes epoch) (1 ∷ []) (0 ∷ [])))
      ∙ take_at ((magic ++ epoch_bytes epoch) ++ 1 ∷ []) (0 ∷ []) 17 prefix_size in
      let first =
      prefix_first fits small (headed epoch)
      (written_goes_on small (ap form_in (append_assoc magic (epoch_bytes epoch) (1 ∷ 0 ∷ [])) ∙ made_form (epoch_bytes epoch ++ 1 ∷ 0 ∷ []))) in
      (prefix_same fits 17 [] small (whole_bytes epoch 1 rs) first (prefix_is ∙ sym small_prefix) (omega (arith, long))).head

  pub prefix_whole : IsPrefix fits (17 + length (blocks rs)) rs (whole_bytes epoch 1 rs)
  prefix_whole = record {
    head = opened_head;
    epoch = written_goes_on (whole_bytes epoch 1 rs) (whole_form epoch 1 rs);
    good = subst (λ (n : ℕ). AreRecords n fits rs) (sym (longest_of (whole_bytes epoch 1 rs) WRITTEN (whole_form epoch 1 rs))) good;
    prefix = ap (take (17 + length (blocks rs))) (parts ∙ sym (append_assoc ((magic ++ epoch_bytes epoch) ++ 1 ∷ []) (blocks rs) (0 ∷ [])))
        ∙ take_at (((magic ++ epoch_bytes epoch) ++ 1 ∷ []) ++ blocks rs) (0 ∷ []) (17 + length (blocks rs))
        (omega (arith, length-append ((magic ++ epoch_bytes epoch) ++ 1 ∷ []) (blocks rs), prefix_size))
        ∙ ap (λ (l : List ℕ). l ++ blocks rs) (sym prefix_is);
    place = refl;
    room = omega (arith, long);
  }

  pub shut_whole : get_or (whole_bytes epoch 1 rs) (17 + length (blocks rs)) 0 ≢ 1
  shut_whole one =
      let nought : get_or (whole_bytes epoch 1 rs) (17 + length (blocks rs)) 0 ≡ 0 =
      ap (λ (l : List ℕ). get_or l (17 + length (blocks rs)) 0) (parts ∙ sym (append_assoc ((magic ++ epoch_bytes epoch) ++ 1 ∷ []) (blocks rs) (0 ∷ [])))
      ∙ get_or_at (((magic ++ epoch_bytes epoch) ++ 1 ∷ []) ++ blocks rs) 0 [] 0 (17 + length (blocks rs))
      (omega (arith, length-append ((magic ++ epoch_bytes epoch) ++ 1 ∷ []) (blocks rs), prefix_size)) in
      omega (arith, one, nought)

  pub records_whole : records fits (whole_bytes epoch 1 rs) ≡ Ok rs
  records_whole = closed fits (17 + length (blocks rs)) rs (whole_bytes epoch 1 rs) prefix_whole shut_whole

  pub standing_whole : (end size : ℕ) → end ≡ 17 + length (blocks rs) → size ≡ end + 1 → epoch < 2 ^ 64 → (i : Image)
      → i ≡ settled_at (whole_bytes epoch 1 rs) → Standing fits end size epoch i
  standing_whole end extent place grown small i is = subst (λ (j : Image). Standing fits end extent epoch j) (sym is) (record {
    holds = holds_own fits end rs (settled_at (whole_bytes epoch 1 rs))
        (subst (λ (n : ℕ). Holds fits n rs (settled_at (whole_bytes epoch 1 rs))) (sym place) (record {
          prefix = prefix_whole;
          shut = shut_whole;
          settled = record { same = refl; none = refl; least = refl; greatest = refl };
        }));
    extent_is = omega (arith, long, place, grown);
    epoch_is = epoch_is epoch (1 ∷ filling rs) small;
    form_is = whole_form epoch 1 rs;
  })

  -- what is left while the gate is opened
  pub closed_or_filled : epoch < 2 ^ 64 → (d : List ℕ) → IsAfterGate 16 (filling rs) (closed_prefix epoch) d → IsClosedOrFilled fits epoch rs d
  closed_or_filled small d = ⊎_elim
      (λ (up : IsUpToGate 16 (closed_prefix epoch) d). inl (shut_up epoch d up.same))
      (λ (byte, is). ⊎_elim
      (λ (one : byte ≡ 1).
      let now : d ≡ whole_bytes epoch 1 rs = is ∙ whole_is epoch byte rs ∙ ap (λ (n : ℕ). whole_bytes epoch n rs) one in
      inr (
        ap is_open now ∙ ap (λ (h : Option ℕ). is_none h) opened_head,
        ap epoch_in now ∙ epoch_is epoch (1 ∷ filling rs) small,
        ap (records fits) now
            ∙ records_whole,
      ))
      (λ other. inl (ap is_open is ∙ shut_by epoch byte rs other))
      (cases_eq byte 1))

pub ready_cleared : (epoch : ℕ) (told : Option Image) → IfSome told (IsCleared epoch) → IfSome told (IsReady 16)
ready_cleared epoch told cleared = lift1 told (IsCleared epoch) (IsReady 16) cleared (λ i is. subst (IsReady 16) (sym is) (record {
  settled = record { same = refl; none = refl; least = refl; greatest = refl };
  within = omega (arith, length-closed_prefix epoch);
}))

filled_image : (epoch : ℕ) (rs : List (List ℕ)) (i : Image) → IsCleared epoch i → opened 16 (filling rs) 4 i ≡ settled_at (whole_bytes epoch 1 rs)
filled_image epoch rs i is = ap (opened 16 (filling rs) 4) is ∙ ap settled_at (whole_is epoch 1 rs)

module _ (fits : List ℕ → Bool) (epoch : ℕ) (rs : List (List ℕ)) (good : AreGood fits rs) (small : epoch < 2 ^ 64) where
  pub fill_stands : (told new : Option Image) (end size : ℕ) → end ≡ 17 + length (blocks rs) → size ≡ end + 1 → IfSome told (IsCleared epoch)
      → new ≡ option_map (opened 16 (filling rs) 4) told → IfSome new (Standing fits end size epoch)
  fill_stands None new end extent place grown cleared is = subst (λ (o : Option Image). IfSome o (Standing fits end extent epoch)) (sym is) tt
  fill_stands (Some i) new end extent place grown cleared is = subst (λ (o : Option Image). IfSome o (Standing fits end extent epoch)) (sym is)
      (standing_whole fits epoch rs good end extent place grown small (opened 16 (filling rs) 4 i) (filled_image epoch rs i cleared))

  pub fill_records : (told new : Option Image) → IfSome told (IsCleared epoch) → new ≡ option_map (opened 16 (filling rs) 4) told
      → IfSome new (λ i. records fits i.bytes ≡ Ok rs)
  fill_records None new cleared is = subst (λ (o : Option Image). IfSome o (λ i. records fits i.bytes ≡ Ok rs)) (sym is) tt
  fill_records (Some i) new cleared is = subst (λ (o : Option Image). IfSome o (λ i. records fits i.bytes ≡ Ok rs)) (sym is)
      (ap (λ (j : Image). records fits j.bytes) (filled_image epoch rs i cleared) ∙ records_whole fits epoch rs good)

  pub fill_leaves : (told : Option Image) (at : ℕ → Option Image) (first last : ℕ) → IfSome told (IsCleared epoch)
      → IfSome told (λ i. LeavesBetween at first last (IsAfterGate 16 (filling rs) i.bytes))
      → IfSome told (λ i. LeavesBetween at first last (IsClosedOrFilled fits epoch rs))
  fill_leaves None at first last cleared left = tt
  fill_leaves (Some i) at first last cleared left = leaves_map at first last (IsAfterGate 16 (filling rs) i.bytes) (IsClosedOrFilled fits epoch rs)
      (λ d b. closed_or_filled fits epoch rs good small d (subst (λ (j : Image). IsAfterGate 16 (filling rs) j.bytes d) cleared b)) left

  pub fill_begun : (told : Option Image) (at : ℕ → Option Image) (first : ℕ) → IfSome told (IsCleared epoch) → at first ≡ told
      → IfSome told (λ i. LeavesBetween at first first (IsClosedOrFilled fits epoch rs))
  fill_begun None at first cleared here = tt
  fill_begun (Some i) at first cleared here =
      started at first (IsClosedOrFilled fits epoch rs) (subst (λ (o : Option Image). IfSome o (Safe (IsClosedOrFilled fits epoch rs))) (sym here)
      (λ d left.
      let same : d ≡ closed_prefix epoch =
      only_settled (settled_at (closed_prefix epoch)) d (record { same = refl; none = refl; least = refl; greatest = refl })
      (subst (λ (j : Image). MayLeave j d) cleared left) in
      closed_or_filled fits epoch rs good small d
      (inl (record { same = ap (take 17) same; within = omega (arith, ap length same, length-closed_prefix epoch) }))))
