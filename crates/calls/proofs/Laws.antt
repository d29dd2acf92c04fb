-- Laws over plain variables, one subject a file: what each return of a call has to show.
pub mod Laying
pub mod Showing
pub mod Telling
