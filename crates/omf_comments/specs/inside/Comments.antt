-- What is read of a comment by its fields, and of an extension.
use Rattle.std.specs.Prelude.{◌≡◌, ℕ, ◌<◌, List, [], ◌∷◌, ◌++◌, Some, None}
use Rattle.std.specs.Borrow.{Bor}
use Rattle.std.specs.declared.option.Option.{Option}
use Rattle.std.proofs.Common.{refl}
use Rattle.omf_codec.specs.Language.{IsBytes}
use Rattle.omf_codec.specs.inside.Canonical as canon
use Rattle.omf_codec.specs.inside.Format.{Format, IsMade, free}
use Rattle.omf_codec.specs.inside.FormatLaws.{both, exact}
use Rattle.omf_codec.specs.inside.PrimitiveLaws.{index}
use Rattle.omf_comments.specs.CommentView.{extension_view}
use Rattle.omf_comments.specs.Comments as says
use Rattle.omf_comments.specs.Comments.{WeakText}
use Rattle.omf_comments.specs.declared.comments.WeakExternal.{WeakExternal}
use Rattle.omf_comments.specs.declared.extensions.Extension.{Extension}

-- of this subtype, and spelled so
abbrev pub ExtensionOf : ℕ → says.Extension → List ℕ → Type 0
ExtensionOf number e text = (says.subtype e ≡ number) × says.ExtensionText e text

-- what the bytes are the text of; none, where they are of nothing
abbrev pub FindsText : {I V : Type 0} → Format I V → List ℕ → Option I → Type 0
FindsText F bytes (Some x) = F.Text (F.view x) bytes
FindsText F bytes None = (x : _) → F.Text x bytes → ⊥

-- the first byte, and those behind it
abbrev pub FrontsByte : List ℕ → Option (ℕ × Bor (List ℕ)) → Type 0
FrontsByte bytes (Some (b, rest)) = (b < 256) × IsBytes rest.now × (bytes ≡ b ∷ rest.now)
FrontsByte bytes None = bytes ≡ []

-- the extension of this number that has these bytes; none, where none has
abbrev pub FindsExtension : ℕ → List ℕ → Option Extension → Type 0
FindsExtension number bytes (Some e) = ExtensionOf number (extension_view e) bytes
FindsExtension number bytes None = (e : says.Extension) → ExtensionOf number e bytes → ⊥

-- an external, and the one that it is by default
abbrev pub weak : Format WeakExternal WeakExternal
weak = free (λ x. x) WeakText (λ w. canon.index w.external ++ canon.index w.default)

pub weak_made : IsMade (both index index) weak
weak_made = exact (both index index) weak (λ x. record { external = x.0; default = x.1 })
    (λ w. (w.external, w.default)) (λ y. refl) (λ x text l. l) (λ y text l. l) (λ y. refl) (λ r. tt)
