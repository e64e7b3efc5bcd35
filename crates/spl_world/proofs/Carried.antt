-- Links that carried messages, and are ready for more.
use Rattle.std.{specs.Io.KnownBytes.append_known, proofs.{Common.append-nil, lemmas.List.append_cancel_left}}
use Rattle.spl_pump.{specs.Wires.{AllBytesTaken, PutsPart, TakesBetween, TakesPart, bytes_on_pair}, proofs.Streams.known_more}
use Rattle.spl_world.{specs.{Links.{Carries, IsDueIn, AreLinksReady, LinkView}, Views.IsPlace}, proofs.Common.{◌≡◌, ◌⊎◌, ◌<◌, ◌≤◌, ℕ, false, List, [], ◌++◌}}
use Rattle.spl_world.proofs.{Common.{Option, length, sym, ◌∙◌, ap, append_assoc, subst, arith, Carried, Entry}, Linking.IsIdle}

-- a carrier is ready for the places of nodes
pub ready_for : (es : List Entry) (places : List ℕ) (y : LinkView) → length es ≤ y.slots → y.failed ≡ false → AllBytesTaken y.put y.taken
    → ((k : ℕ) → IsPlace places k → k < length es) → AreLinksReady places y
ready_for es places y slots going taken below = record {
  below = λ k at. (let less = below k at in omega (arith, less, slots));
  going = going;
  taken = taken;
}

module _ {sent : List Carried} {x y : LinkView} (c : Carries sent x y) where
  -- nothing more is put where nothing more is carried
  pub carries_idle : IsIdle y
  carries_idle = λ a b.
      let least = x.wire sent a b in
      append_cancel_left least (y.wire [] a b) [] (sym (c.onward.after [] a b) ∙ ap (λ (cs : List Carried). x.wire cs a b) (append-nil sent) ∙ sym (append-nil least))

  -- after all of them a part of more
  pub carries_part : (own : List Carried) (z : LinkView) → PutsPart (y.wire own) y.put z.put → (a b : ℕ) → a < 256 → b < 256
      → (done : List ℕ) × (more : List ℕ) × (x.wire (sent ++ own) a b ≡ (x.wire sent a b ++ done) ++ more) × (z.put a b ≡ append_known (x.put a b) (x.wire sent a b ++ done))
  carries_part own z part a b i j =
      let (done, more, is, grows) = part a b i j in
      let least = x.wire sent a b in (
        done,
        more,
        c.onward.after own a b ∙ ap (λ (l : List ℕ). least ++ l) is ∙ sym (append_assoc least done more),
        grows ∙ ap (λ (k : Option (List ℕ)). append_known k done) (c.put a b i j) ∙ known_more (x.put a b) least done,
      )

  -- and of what was taken, other bytes come last
  abbrev pub hears_part : (own : List Carried) (z : LinkView) → TakesPart (IsDueIn y.hello own) (y.wire own) y.taken z.taken
      → TakesBetween (IsDueIn x.hello own) (x.wire sent) (x.wire (sent ++ own)) x.taken z.taken
  hears_part own z t = record {
    from = t.from;
    to = t.to;
    next = t.next;
    last = t.last;
    due = subst (λ (hello : ℕ → ℕ → List ℕ). (t.last ≡ []) ⊎ IsDueIn hello own t.from t.to t.next) c.hello t.due;
    short = t.short;
    each = λ a b i j.
        let (done, more, is, grows) = t.each a b i j in
        let least = x.wire sent a b in
        let last = bytes_on_pair t.from t.to t.last a b in (
          done,
          more,
          c.onward.after own a b ∙ ap (λ (l : List ℕ). least ++ l) is ∙ sym (append_assoc least done (bytes_on_pair t.from t.to t.next a b ++ more)),
          grows ∙ ap (λ (k : Option (List ℕ)). append_known k (done ++ last)) (c.heard a b i j) ∙ known_more (x.taken a b) least (done ++ last)
              ∙ ap (λ (l : List ℕ). append_known (x.taken a b) l) (sym (append_assoc least done last)),
        );
  }
