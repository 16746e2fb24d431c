-- What records say decides their file.
use Rattle.std.proofs.Common.{◌≡◌, ℕ, List, map, is_some, sym, ap, ◌∙◌}
use Rattle.std.proofs.Math.Path.{fun_ext}
use Rattle.std.proofs.lemmas.Simd.{map-map}
use Rattle.omf_record.specs.Record.{Record}
use Rattle.omf_record.specs.Records.{Placed}
use Rattle.omf_module.specs.Module.{Module}
use Rattle.omf_module.specs.Tables.{module_of}
use Rattle.omf_place.specs.Layout.{Layout}
use Rattle.omf_place.specs.declared.names.Names.{Names}
use Rattle.omf_image.specs.Building.{IsProgramOf}
use Rattle.omf_image.specs.Program.{Program}
use Rattle.omf_image.specs.Records.{program_byte, relocations, written}
use Rattle.omf_image.specs.inside.Whole.{page_covered}
use Rattle.omf_image.specs.Registers.{program_fault, registers}
use Rattle.omf_commands.specs.Records.{says_of}
use Rattle.omf_commands.specs.Linking.{IsFileOf, IsLinked}
use Rattle.omf_commands.proofs.OneFile.{same_file}
use Rattle.omf_commands.proofs.Placeless.{placeless, unplaced_record, module_of_unplaced, none_of, Alike, kept}
use Rattle.omf_commands.proofs.PlacelessLayout.{only_layout_of}
use Rattle.omf_commands.proofs.PlacelessProgram.{byte_same, pages_same, written_same, relocations_same, faulty_same}
use Rattle.omf_commands.proofs.PlacelessProgram.{registers_same}

-- records that say the same are the same modules but for places
says_module : List Record → Module
says_module says = module_of (map unplaced_record says)

module_said : (rs : List Placed) → placeless (module_of rs) ≡ says_module (says_of rs)
unfolding says_module
module_said rs = sym (module_of_unplaced rs) ∙ ap module_of (sym (map-map _ _ rs))

modules_said : (lists : List (List Placed)) → map placeless (map module_of lists) ≡ map says_module (map says_of lists)
modules_said lists =
    map-map placeless module_of lists
    ∙ (ap (λ f. map f lists) (fun_ext module_said) ∙ sym (map-map says_module says_of lists))

alike : (lists others : List (List Placed)) → map says_of lists ≡ map says_of others
    → Alike (map module_of lists) (map module_of others)
alike lists others same = modules_said lists ∙ (ap (map says_module) same ∙ sym (modules_said others))

program_of : (modules others : List Module) (layout : Layout) (p : Program) → Alike modules others
    → IsProgramOf layout modules p → IsProgramOf layout others p
program_of modules others layout p same made = record {
  sized = made.sized;
  written = made.written ∙ kept (written layout) (written_same layout) modules others same;
  everywhere =
      λ P a below.
      made.everywhere P a below ∙ kept (λ ms. program_byte P layout ms a) (byte_same P layout a) modules others same;
  listed = made.listed ∙ kept (relocations layout) (relocations_same layout) modules others same;
  below = made.below;
  at_zero = sym (kept (registers 0 layout) (registers_same 0 layout) modules others same) ∙ made.at_zero;
  at_each = λ P. sym (kept (registers P layout) (registers_same P layout) modules others same) ∙ made.at_each P;
  pages = λ k. made.pages k ∙ kept (λ ms. page_covered layout ms k) (pages_same layout k) modules others same;
}

linked_of : (names : Names) (modules others : List Module) (layout : Layout) (p : Program) → Alike modules others
    → IsLinked names modules layout p → IsLinked names others layout p
linked_of names modules others layout p same linked = record {
  is_layout = only_layout_of names modules others layout same linked.is_layout;
  sound =
      none_of (program_fault layout others)
      (sym (kept (λ ms. is_some (program_fault layout ms)) (faulty_same layout) modules others same)
      ∙ ap is_some linked.sound);
  program = program_of modules others layout p same linked.program;
}

pub file_of_said : (names : Names) (lists others : List (List Placed)) (file : List ℕ)
    → map says_of lists ≡ map says_of others → IsFileOf names (map module_of lists) file
    → IsFileOf names (map module_of others) file
file_of_said names lists others file same (layout, p, linked, mz) = (
  layout,
  p,
  linked_of names (map module_of lists) (map module_of others) layout p (alike lists others same) linked,
  mz,
)

pub one_file_of_said : (names : Names) (lists others : List (List Placed)) (file other : List ℕ)
    → map says_of lists ≡ map says_of others → IsFileOf names (map module_of lists) file
    → IsFileOf names (map module_of others) other → file ≡ other
one_file_of_said names lists others file other same a b =
    same_file names (map module_of others) file other (file_of_said names lists others file same a) b
