-- The forms of texts, as they are defined in `text_rules`.
pub use Rattle.text_rules.specs.TextForms.{has_colon, before_colon, behind_colon, is_delimiter, ends_in_delimiter, begins_as_keyword, is_name_byte, is_name, is_variable, is_plain_letter, is_plain, plain_end}
unfoldable pub use Rattle.text_rules.specs.TextForms.{is_term_name}
