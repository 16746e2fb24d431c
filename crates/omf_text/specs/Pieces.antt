-- How each piece of a line is printed.
use Rattle.std.specs.Prelude.{List, ℕ, decimal}
use Rattle.std.specs.List.{flat_map}
use Rattle.omf_record.specs.Numbers.{bit, thread_number, location_number, alignment_number, combination_number}
use Rattle.omf_record.specs.Numbers.{segment_len}
use Rattle.omf_text.specs.declared.pieces.Piece.{Piece}
use Rattle.omf_text.specs.declared.pieces.Piece.TheVariants as piece
use Rattle.omf_text.specs.Printing.{hexadecimal, name_byte, printed_name, right}
use Rattle.omf_text.specs.Details.{comment_bytes, expanded, absolute, mode, frame_method, target_method, frame_of}
use Rattle.omf_text.specs.Details.{target_of, displacement}

-- the text of a piece
abbrev pub printed : Piece → List ℕ
printed (piece.Text text) = text.now
printed (piece.Bytes bytes) = bytes.now
printed (piece.Index n) = decimal n
printed (piece.Count n) = decimal n
printed (piece.Byte n) = hexadecimal 2 n
printed (piece.Size n) = right 7 (decimal n)
printed (piece.Place n) = hexadecimal 3 n
printed (piece.FilePlace n) = hexadecimal 8 n
printed (piece.Word n) = hexadecimal 4 n
printed (piece.Address n) = hexadecimal 6 n
printed (piece.Name name) = printed_name name.now
printed (piece.PlainName name) = flat_map name_byte name.now
printed (piece.Bit b) = decimal (bit b)
printed (piece.CommentBytes bytes) = comment_bytes bytes.now
printed (piece.Expanded n) = expanded n
printed (piece.Alignment a) = decimal (alignment_number a)
printed (piece.Absolute a) = absolute a
printed (piece.Combination c) = decimal (combination_number c)
printed (piece.Length n) = decimal (segment_len n)
printed (piece.Mode self_relative) = mode self_relative
printed (piece.Location l) = decimal (location_number l)
printed (piece.Thread n) = decimal (thread_number n)
printed (piece.FrameMethod m) = frame_method m
printed (piece.TargetMethod m) = target_method m
printed (piece.Frame f) = frame_of f
printed (piece.Target t) = target_of t
printed (piece.Displacement d) = displacement d
