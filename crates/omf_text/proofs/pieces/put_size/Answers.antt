use Rattle.std.proofs.Common.{rules, ◌≡◌, ℕ, List, ◌∷◌, [], ◌-◌, ◌++◌, ◌∙◌, ap, append-nil, decimal, length, map}
use Rattle.std.proofs.Common.{replicate}
use Rattle.omf_frame.proofs.Told.{Wrote-same}
use Rattle.omf_text.proofs.PrintLemmas.{pieces_joined}
use Rattle.omf_text.proofs.pieces.put_size.Goals as goal

pub returns : goal.returns
returns g c =
    let digits : List ℕ = decimal c.args.size in
    let before : List ℕ = replicate (7 - length digits) 32 in
    let digits_is : c.as_bytes-digits.result.now ≡ digits = search rules in
    let before_is : c.spaces.result.now ≡ before = search rules in
    let texts : map (λ piece. piece.now) c.as_slice.result.now ≡ before ∷ digits ∷ [] = search rules in
    Wrote-same _ _ _ _ _ _ _ (pieces_joined _ _ texts ∙ ap (λ l. before ++ l) (append-nil digits)) c.put_pieces.ensures
