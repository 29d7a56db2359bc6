-- The numbers of classes, as the tokens' crate defines them. Forms and the table compare classes by number. (own)
pub use Rattle.daide_token.specs.ClassNumbers.{class_number, own_classes, same_class}
