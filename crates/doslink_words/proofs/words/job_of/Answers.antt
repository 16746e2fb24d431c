use Rattle.std.proofs.Common.{◌∙◌, ap, codes, option_map, refl}
use Rattle.clap.specs.Words.{first_of, found_of, rows_of}
use Rattle.clap.proofs.WalkLemmas.{first_value-rows}
use Rattle.command_line.proofs.Values.{contrary_flag, flag_of}
use Rattle.doslink_words.specs.Said.{At}
use Rattle.doslink_words.specs.Words.{form_asked, map_form_asked, nulls_asked, order_asked, stack_asked}
use Rattle.doslink_words.proofs.words.job_of.Goals as goal

pub returns : goal.returns
returns c =
    let f = found_of c.args.values.now in
    record {
      inputs = c.in_ok-inputs_asked.ensures;
      out = c.get_str-3.ensures ∙ first_value-rows f (codes "OUT");
      map = c.map_asked.ensures ∙ ap (option_map At) (c.get_str-4.ensures ∙ first_value-rows f (codes "MAP"));
      map_form =
          c.map_form_asked.ensures ∙ ap map_form_asked (c.get_str-5.ensures ∙ first_value-rows f (codes "NAME"));
      folders = c.in_ok-values_of.ensures;
      ignore_case =
          flag_of f (codes "ignore-case") c.get_flag.result c.get_flag.ensures.value c.get_flag.ensures.other
          c.get_flag.ensures.none;
      order =
          c.in_ok-order_asked.ensures ∙ ap order_asked (c.get_str-6.ensures ∙ first_value-rows f (codes "ORDER"));
      null_bytes =
          c.nulls_asked.ensures
          ∙ ap (λ word. nulls_asked word c.form_asked-form.result) (c.get_str-7.ensures ∙ first_value-rows f (codes "ORDER"));
      stack = c.stack_asked.ensures ∙ ap stack_asked (c.get_str-8.ensures ∙ first_value-rows f (codes "N"));
      form =
          c.form_asked-form.ensures
          ∙ (ap (λ word. form_asked word (option_map (λ s. s.now) c.get_str-2.result))
          (c.get_str.ensures ∙ first_value-rows f (codes "FORM"))
          ∙ ap (form_asked (first_of (codes "FORM") (rows_of f)))
          (c.get_str-2.ensures ∙ first_value-rows f (codes "PARAGRAPH")));
      default_libraries =
          contrary_flag f (codes "no-default-libs") c.get_flag-2.result c.get_flag-2.ensures.value
          c.get_flag-2.ensures.other c.get_flag-2.ensures.none;
      object_folders = c.new.ensures.items;
      left_out = c.new-2.ensures.items;
      keep_debug =
          flag_of f (codes "keep-debug") c.get_flag-3.result c.get_flag-3.ensures.value c.get_flag-3.ensures.other
          c.get_flag-3.ensures.none;
      packs_far_data = refl;
      verbose =
          flag_of f (codes "verbose") c.get_flag-4.result c.get_flag-4.ensures.value c.get_flag-4.ensures.other
          c.get_flag-4.ensures.none;
      quiet = refl;
      start = refl;
      references = c.new-3.ensures.items;
      aliases = c.new-4.ensures.items;
    }
