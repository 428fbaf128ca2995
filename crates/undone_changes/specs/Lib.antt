pub mod UndoneTexts
