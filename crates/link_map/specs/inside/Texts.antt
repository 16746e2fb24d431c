-- The map by its parts.
use Rattle.std.specs.Prelude.{List, ℕ, ◌++◌}
use Rattle.omf_module.specs.Module.{Module}
use Rattle.omf_place.specs.Layout.{Layout}
use Rattle.omf_image.specs.Program.{Program}
use Rattle.link_map.specs.Map.{group_lines, order_lines, segment_lines, start_line}
use Rattle.link_map.specs.Public.{Public}
use Rattle.link_map.specs.declared.form.MapForm.{MapForm}

-- the map with its publics in two orders, its detailed map and its line numbers, whichever they are
abbrev pub map_with : MapForm → List Module → Layout → Program → (names values : List Public)
    → (details numbers : List ℕ) → List ℕ
map_with form modules layout program names values details numbers = segment_lines form modules layout
    ++ (group_lines form modules layout ++ (details
    ++ (order_lines names values ++ (numbers ++ start_line program.registers))))
