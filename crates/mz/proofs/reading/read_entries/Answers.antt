use Rattle.std.proofs.Common.{◌≡◌, ◌+◌, ◌-◌, ◌*◌, ◌<◌, ℕ, suc, List, [], ◌∷◌, ◌++◌, arith, ap, ◌∙◌, sym, append_assoc}
use Rattle.mz.specs.declared.format.Entry.{Entry}
use Rattle.mz.specs.Header.{entry_at}
use Rattle.mz.specs.Reading.{entries_at}
use Rattle.mz.proofs.reading.read_entries.Goals as goal

next : (n i t : ℕ) (b : List ℕ) → i < n
    → entries_at (n - i) (t + 4 * i) b ≡ entry_at (t + 4 * i) b ∷ entries_at (n - (i + 1)) (t + 4 * (i + 1)) b
next n i t b h =
    let left : n - i ≡ suc (n - (i + 1)) = omega arith in
    let place : t + 4 * i + 4 ≡ t + 4 * (i + 1) = omega arith in
    ap (λ (m : ℕ). entries_at m (t + 4 * i) b) left
    ∙ ap (λ (p : ℕ). entry_at (t + 4 * i) b ∷ entries_at (n - (i + 1)) p b) place

pushed : (items new whole : List Entry) (e : Entry) (n i t s : ℕ) (b : List ℕ) → i < n → new ≡ items ++ e ∷ []
    → e ≡ entry_at (s + 4 * i) b → s ≡ t
    → items ++ entries_at (n - i) (t + 4 * i) b ≡ whole → new ++ entries_at (n - (i + 1)) (t + 4 * (i + 1)) b ≡ whole
pushed items new whole e n i t s b h p r q w =
    let rest = entries_at (n - (i + 1)) (t + 4 * (i + 1)) b in
    let same : e ≡ entry_at (t + 4 * i) b = r ∙ ap (λ (x : ℕ). entry_at (x + 4 * i) b) q in
    ap (λ l. l ++ rest) p ∙ append_assoc items (e ∷ []) rest ∙ ap (λ (x : Entry). items ++ x ∷ rest) same
    ∙ ap (λ l. items ++ l) (sym (next n i t b h)) ∙ w

pub loop-index-preserved : goal.loop-index-preserved
loop-index-preserved g c =
    pushed c.loop-index.entries.items c.push.new.self.items _ c.read.result c.args.header.relocation_count
    c.loop-index.index c.args.header.relocation_table c.from-start.result c.args.bytes.now
    (omega arith) c.in_ok-push.ensures.items c.read.ensures c.from-start.ensures c.loop-index.invariant
