mod ChangeLaws
