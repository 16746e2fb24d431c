-- Contents of 32 bits at places that are equal.
use Rattle.std.proofs.Common.{◌≡◌, ℕ, List, [], ◌∷◌, ◌++◌, ap, ◌∙◌}
use Rattle.omf_record.specs.Record.{Blocks}
use Rattle.omf_plain.specs.Data.{WideContent, all_wide_contents_at}

pub one_moved : {g h s t : ℕ} (before : List WideContent) (bytes : List ℕ) → g ≡ h → s ≡ t
    → before ++ record { given = g; said = s; bytes = bytes } ∷ []
    ≡ before ++ record { given = h; said = t; bytes = bytes } ∷ []
one_moved {g} {h} {s} {t} before bytes e f =
    ap (λ n. before ++ record { given = n; said = s; bytes = bytes } ∷ []) e
    ∙ ap (λ n. before ++ record { given = h; said = n; bytes = bytes } ∷ []) f

pub all_moved : {g h s t : ℕ} (before : List WideContent) (blocks : Blocks) → g ≡ h → s ≡ t
    → before ++ all_wide_contents_at g s blocks ≡ before ++ all_wide_contents_at h t blocks
all_moved {g} {h} {s} {t} before blocks e f =
    ap (λ n. before ++ all_wide_contents_at n s blocks) e ∙ ap (λ n. before ++ all_wide_contents_at h n blocks) f
